use Rattle.pid_moderation.specs.History.{accepted_count}
use Rattle.pid_moderation.proofs.RevisionLemmas.{same_views, taken_marked, taken_revision, taken_since}
use Rattle.pid_moderation.proofs.laws.taken_files_begin_anew.Goals as goal

pub returns : goal.returns
returns c = record { views = λ h. same_views (accepted_count h) h; marked = taken_marked; revision = taken_revision; since = taken_since }
