use Rattle.pid_ident.proofs.Shapes.{at_end}
use Rattle.pid_ident.proofs.path_text.parse.has_shape.Goals as goal

pub returns : goal.returns
returns c = at_end c.loop-marks.rest.now c.loop-marks.marks.now _ _ c.loop-marks.invariant c.in_default.len_below c.is_empty.ensures
