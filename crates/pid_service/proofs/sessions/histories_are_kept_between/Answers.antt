use Rattle.pid_service.proofs.Finding.{keeps_between}
use Rattle.pid_service.proofs.sessions.histories_are_kept_between.Goals as goal

pub returns : goal.returns
returns g c = keeps_between g.C.Database g.D.Database g.E.Database
