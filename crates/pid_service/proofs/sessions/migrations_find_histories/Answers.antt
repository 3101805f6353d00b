use Rattle.pid_moderation.proofs.RevisionLemmas.{same_views, taken_revision, taken_since}
use Rattle.pid_moderation.specs.History.{accepted_count}
use Rattle.pid_service.proofs.Finding.{taken_bare, taken_there}
use Rattle.pid_service.proofs.sessions.migrations_find_histories.Goals as goal

pub returns : goal.returns
returns g c conn v h opens shows same =
    taken_there g.C.Database (λ conn. g.met.C.Database.durable conn) conn v h (taken_bare h (taken_revision h) (taken_since h)) (same_views (accepted_count h) h) opens shows same
