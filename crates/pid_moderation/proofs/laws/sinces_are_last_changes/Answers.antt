use Rattle.pid_moderation.specs.Judgement.{judge}
use Rattle.pid_moderation.specs.Views.{views_of}
use Rattle.pid_moderation.proofs.RevisionLemmas.{within, before_mark, kept, removed, given}
use Rattle.pid_moderation.proofs.laws.sinces_are_last_changes.Goals as goal

pub returns : goal.returns
returns c = record {
  within = within;
  at_mark = before_mark;
  kept = λ h asks path same. kept h asks path (judge (views_of h) asks) same;
  removed = λ h asks path none. removed h asks path (judge (views_of h) asks) none;
  given = λ h asks path name now other. given h asks path name (judge (views_of h) asks) now other;
}
