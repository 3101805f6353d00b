-- What a call in a transaction leaves, and which views it leads to.
use Rattle.std.specs.Prelude.{◌≡◌, Result, OnOk, MatchResult, IsTrue}
use Rattle.sqlite.specs.State.{State, HasCleanDisk, Survives}
use Rattle.pid_moderation.specs.Views.{Views}
use Rattle.pid_tables.specs.declared.rows.fault.TableFault.{TableFault}
use Rattle.pid_tables.specs.Rows.Faults.{IsMemoryOrStore}
use Rattle.pid_tables.specs.Rows.Shows.{Counts}
use Rattle.pid_tables.specs.Rows.Steps.Shows.{ShowsCounting}

-- A call inside a transaction commits nothing, whatever it answers; if it answers a value, the
-- transaction goes on.
pub record GoesOn {X E : Type 0} (old new : State) (result : Result X E) : Type 0 where
  pub survives : Survives old new (λ _. ⊥)
  pub was_open : HasCleanDisk new → IsTrue new.is_open → IsTrue old.is_open
  pub committed : HasCleanDisk new → IsTrue old.in_transaction → IsTrue new.is_open
      → new.committed ≡ old.committed
  pub going : HasCleanDisk new → IsTrue old.in_transaction
      → OnOk result (IsTrue new.is_open × IsTrue new.in_transaction)

-- What a call in a transaction changes: the counts of meta and the views that it is for, and what
-- it makes of each.
pub record Turn : Type 1 where
  pub IsFor : Counts → Views → Type 0
  pub recount : Counts → Counts
  pub next : Views → Views

-- the counts alone are changed
abbrev pub recounting : (Counts → Counts) → Turn
recounting recount = record { IsFor = λ c v. Unit {0}; recount = recount; next = λ v. v }

-- the views alone are changed, of those that it is for
abbrev pub changing : (Views → Type 0) → (Views → Views) → Turn
changing IsFor next = record { IsFor = λ c v. IsFor v; recount = λ c. c; next = next }

-- If the transaction shows what the turn is for, the call answers a value only with the
-- transaction showing what comes next, and a fault only if there is no memory or the store
-- failed or refused.
abbrev pub LeadsTo : {X : Type 0} → State → State → Result X TableFault → Turn → Type 0
LeadsTo old new result turn =
    HasCleanDisk new → IsTrue old.in_transaction → (c : Counts) (v : Views)
    → ShowsCounting c old.now v → turn.IsFor c v
    → MatchResult result (λ _. ShowsCounting (turn.recount c) new.now (turn.next v)) IsMemoryOrStore
