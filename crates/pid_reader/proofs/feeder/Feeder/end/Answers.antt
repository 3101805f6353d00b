use Rattle.std.proofs.Common.{Err, ap, sym, subst}
use Rattle.pid_file.specs.Reading.{Reads}
use Rattle.pid_file.proofs.Feeding.{Reads-from_sink}
use Rattle.pid_reader.proofs.TreeEnds.{never_missing}
use Rattle.pid_reader.proofs.feeder.Feeder.end.Goals as goal

pub returns-in-Ok-into_tree-clause-read : goal.returns-in-Ok-into_tree-clause-read
returns-in-Ok-into_tree-clause-read c text h =
    let ends = c.in-Ok.ensures.ends text h.start h.holds h.took in
    (subst (Reads text) (sym c.in-Ok-into_tree.ensures.ok) (Reads-from_sink text h.start c.finish.new.sink h.empty_tree ends), ends.0)

pub returns-in-Ok-clause-ends : goal.returns-in-Ok-clause-ends
returns-in-Ok-clause-ends c text h =
    let ends = c.in-Ok.ensures.ends text h.start h.holds h.took in
    never_missing c.in-Err.fault c.finish.new.sink text (Reads-from_sink text h.start c.finish.new.sink h.empty_tree ends) (λ is tree. c.in-Err.ensures.parent_missing (ap Err is) tree)
