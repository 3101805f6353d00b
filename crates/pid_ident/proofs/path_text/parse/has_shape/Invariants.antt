use Rattle.std.proofs.Common.{◌≡◌, length}
use Rattle.pid_ident.specs.Steps.Shapes.{fits}
use Rattle.pid_ident.proofs.path_text.parse.has_shape.Given as goal

abbrev pub invariant-loop-marks : goal.invariant-loop-marks
invariant-loop-marks l = fits l.rest l.marks ≡ fits l.text l.shape

abbrev pub decreases-loop-marks : goal.decreases-loop-marks
decreases-loop-marks l = length l.marks
