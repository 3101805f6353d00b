use Rattle.pid_moderation.specs.Judgement.{judge}
use Rattle.pid_moderation.specs.Views.{views_of}
use Rattle.pid_moderation.proofs.RevisionLemmas.{counted, grows}
use Rattle.pid_moderation.proofs.laws.revisions_count.Goals as goal

pub returns : goal.returns
returns c = record {
  accepted = λ h asks reply marked is. counted h asks reply (judge (views_of h) asks) is marked;
  grows = grows;
}
