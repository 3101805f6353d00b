-- What a call that writes in one transaction leaves, whatever the database.
use Rattle.std.specs.Prelude.{◌≡◌, false, Result, IfErr, OnErr, IsTrue}
use Rattle.sqlite.specs.Effect.{Database}
use Rattle.sqlite.specs.State.{State, HasCleanDisk, Survives}
use Rattle.sqlite.specs.Tree.{Trees}
use Rattle.pid_tables.specs.declared.rows.fault.TableFault.{TableFault}
use Rattle.pid_tables.specs.Rows.Faults.{IsMemoryOrStore}
use Rattle.pid_tables.specs.Rows.Leaves.{OnlyReads, RestsOn}

-- in one step: a crash leaves what it left before, or all that the call was to write
pub record IsOneStep (old new : State) : Type 0 where
  pub written : Trees
  pub survives : Survives old new (λ db. db ≡ written)

-- all of it is seen: the connection is open and sees such trees, and a crash leaves those that it
-- sees
pub record IsCommitted (IsSuch : Trees → Type 0) (s : State) : Type 0 where
  pub is_open : IsTrue s.is_open
  pub sees : IsSuch s.now.trees
  pub leaves : (db : Trees) → s.may_leave db → db ≡ s.now.trees

-- nothing of it is seen: while it is open, the connection was open before, and rests on the
-- database that it rested on
pub record IsTakenBack (old new : State) : Type 0 where
  pub was_open : IsTrue new.is_open → IsTrue old.is_open
  pub same : (d : Database) → RestsOn old d → RestsOn new d

-- The call ends outside a transaction, and forgets no fault of the disk. It is one step, of which
-- nothing is seen after a fault. A fault other than `Memory` and `Store` comes before any write.
pub record WritesAtOnce {X : Type 0} (old new : State) (result : Result X TableFault)
    : Type 0 where
  pub settled : new.in_transaction ≡ false
  pub clean : HasCleanDisk new → HasCleanDisk old
  pub once : IsOneStep old new
  pub back : OnErr result (IsTakenBack old new)
  pub unchanged : HasCleanDisk new
      → IfErr result (λ fault. ¬ (IsMemoryOrStore fault) → OnlyReads old new)
