use Rattle.std.specs.Prelude.{IfOk, Ok, Err, Result}
use Rattle.std.proofs.Common.{ℕ, Bool, cond, List, ap₂}
use Rattle.std.proofs.lemmas.Result.{IfOk-weaker}
use Rattle.sqlite_disk.specs.Events.{Event, replay}
use Rattle.sqlite_wal.specs.Recovery.{Image}
use Rattle.pid_cli_jobs.proofs.host_files.HostFilesDatabaseFiles.open.Goals as goal

abbrev image : List ℕ → List ℕ → Image
image log db = record { log = log; db = db }

abbrev seen : List ℕ → List ℕ → Bool → List Event → List ℕ
seen log db is_log history = (replay (cond is_log log db) history).seen

both : {X Y : Type 0} (r : Result X Y) (P Q R : X → Type 0) → ((x : X) → P x → Q x → R x)
    → IfOk r P → IfOk r Q → IfOk r R
both (Ok x) P Q R f p q = f x p q
both (Err y) P Q R f p q = tt

pub returns-clause-log : goal.returns-clause-log
returns-clause-log g c = IfOk-weaker c.open_pair.result _ _ (λ files log. log.0) c.open_pair.ensures.log

pub returns-clause-db : goal.returns-clause-db
returns-clause-db g c = IfOk-weaker c.open_pair.result _ _ (λ files db. db.0) c.open_pair.ensures.db

pub returns-clause-found : goal.returns-clause-found
returns-clause-found g c = both c.open_pair.result _ _ _
    (λ files log db. ap₂ image (ap₂ (seen g.S.Start.log g.S.Start.db) log.1.0 log.1.1) (ap₂ (seen g.S.Start.log g.S.Start.db) db.1.0 db.1.1))
    c.open_pair.ensures.log c.open_pair.ensures.db
