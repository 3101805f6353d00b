use Rattle.pid_service_laws.proofs.Judging.{outcome_of}
use Rattle.pid_service_laws.proofs.laws.judgements_are_outcomes.Goals as goal

pub returns : goal.returns
returns c = outcome_of
