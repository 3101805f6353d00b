use Rattle.pid_moderation.proofs.RevisionLemmas.{all_within}
use Rattle.pid_moderation.proofs.laws.revisions_are_within.Goals as goal

pub returns : goal.returns
returns c = all_within
