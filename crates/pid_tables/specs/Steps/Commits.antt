-- What a commit leaves of a connection.
use Rattle.std.specs.Prelude.{◌≡◌, Result, IfErr, OnErr, OnOk, IsTrue}
use Rattle.sqlite.specs.State.{State, HasCleanDisk}
use Rattle.pid_moderation.specs.Views.{Views}
use Rattle.pid_tables.specs.AtOnce.{IsCommitted}
use Rattle.pid_tables.specs.Rows.Causes.{IsCaused}
use Rattle.pid_tables.specs.Rows.Steps.Within.{Written}
use Rattle.pid_tables.specs.Rows.Shows.{Shows, counts_of}
use Rattle.pid_tables.specs.declared.rows.fault.TableFault.{TableFault}

-- a transaction failed to commit: what was committed before is seen again
pub record IsUndone (old new : State) : Type 0 where
  pub was_open : IsTrue new.is_open → IsTrue old.is_open
  pub sees : IsTrue new.is_open → new.now ≡ old.committed
  pub committed : IsTrue new.is_open → new.committed ≡ old.committed

-- What a commit leaves.
pub record EndsCommit {X : Type 0} (old new : State) (result : Result X TableFault)
    : Type 0 where
  -- if it answers a value, what the transaction saw; else a fault has its cause,
  pub done : HasCleanDisk new → OnOk result (IsCommitted (λ db. db ≡ old.now.trees) new)
  pub caused : HasCleanDisk new → IsTrue old.in_transaction → IfErr result (IsCaused old new)
  -- and while it is open, the connection shows the views that were held
  pub given_back : (v w : Views) → Written (counts_of w) old v w
      → OnErr result (IsTrue new.is_open → Shows new.now v)
  pub undone : HasCleanDisk new → IsTrue old.in_transaction → OnErr result (IsUndone old new)
