use Rattle.pid_service.proofs.SessionsMet.{sessions_met}
use Rattle.pid_service.proofs.sessions.clauses_meet_sessions.Goals as goal

pub returns : goal.returns
returns g c = sessions_met g.C.Database
