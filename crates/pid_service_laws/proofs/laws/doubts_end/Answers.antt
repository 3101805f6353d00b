use Rattle.pid_service_laws.proofs.Settling.{doubt_settled}
use Rattle.pid_service_laws.proofs.laws.doubts_end.Goals as goal

pub returns : goal.returns
returns c h asked stands (key, is) = doubt_settled h asked key stands is
