use Rattle.std.proofs.lemmas.Bool.{false≢true}
use Rattle.pid_service.proofs.kept_children.add_child.Goals as goal

pub returns-then-end-first : goal.returns-then-end-first
returns-then-end-first c is = absurd (false≢true is)

pub returns-in-None : goal.returns-in-None
returns-in-None c is = absurd (false≢true is)
