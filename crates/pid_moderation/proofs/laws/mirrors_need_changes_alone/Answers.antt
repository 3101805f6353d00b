use Rattle.pid_moderation.proofs.RevisionLemmas.{named_already}
use Rattle.pid_moderation.proofs.laws.mirrors_need_changes_alone.Goals as goal

pub returns : goal.returns
returns c = named_already
