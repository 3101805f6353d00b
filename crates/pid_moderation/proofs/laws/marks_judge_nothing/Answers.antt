use Rattle.pid_moderation.proofs.RevisionLemmas.{mark_set, same_accepted, same_views, same_after_all, same_answers}
use Rattle.pid_moderation.proofs.laws.marks_judge_nothing.Goals as goal

pub returns : goal.returns
returns c = record { mark = mark_set; accepted = same_accepted; views = same_views; after = same_after_all; answers = same_answers }
