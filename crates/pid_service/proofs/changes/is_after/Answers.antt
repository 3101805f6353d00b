use Rattle.std.proofs.Common.{sym}
use Rattle.pid_service.proofs.ChangedLists.{after_nothing}
use Rattle.pid_service.proofs.changes.is_after.Goals as goal

pub returns-in-None : goal.returns-in-None
returns-in-None c = rw c.in-None.is (sym (after_nothing c.args.path))
