use Rattle.pid_service_laws.proofs.Calling.{session_ends}
use Rattle.pid_service_laws.proofs.calls.calls_make_a_session.Goals as goal

pub returns : goal.returns
returns g c = session_ends g.R.RegistryCalls.showing
