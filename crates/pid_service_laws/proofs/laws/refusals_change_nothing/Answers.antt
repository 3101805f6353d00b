use Rattle.pid_moderation.specs.Judgement.{judge}
use Rattle.pid_moderation.specs.Views.{views_of}
use Rattle.pid_service_laws.proofs.Settling.{refused_stays}
use Rattle.pid_service_laws.proofs.laws.refusals_change_nothing.Goals as goal

pub returns : goal.returns
returns c = λ h c refusal is. refused_stays h c refusal (judge (views_of h) c) is
