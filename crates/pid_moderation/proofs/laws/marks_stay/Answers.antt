use Rattle.pid_moderation.proofs.RevisionLemmas.{mark_stays, marked_stays}
use Rattle.pid_moderation.proofs.laws.marks_stay.Goals as goal

pub returns : goal.returns
returns c = record { mark = mark_stays; marked = marked_stays }
