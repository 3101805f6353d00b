-- What putting an entry of a file does to a transaction.
use Rattle.std.specs.Prelude.{◌≡◌, ℕ, IfErr, IfOk, IsTrue, OnOk, Result}
use Rattle.sqlite.specs.State.{State, HasCleanDisk}
use Rattle.pid_reader.specs.LookingBack.{Item}
use Rattle.pid_moderation.specs.Items.{name_at}
use Rattle.pid_moderation.specs.Views.{Views}
use Rattle.pid_tables.specs.declared.rows.fault.TableFault.{TableFault}
use Rattle.pid_tables.specs.Rows.Faults.{IsMemoryOrStore}
use Rattle.pid_tables.specs.Rows.Steps.Within.{KeepsCommitted, Within, Written}
use Rattle.pid_tables.specs.Rows.Shows.{Counts}
use Rattle.pid_tables.specs.Rows.Steps.Writes.{with_name}
use Rattle.pid_tables.specs.declared.putting.Put.{Put}
use Rattle.pid_tables.specs.Steps.Puts.{put_over}

-- A name is put at a path, with this number, within a transaction on these views.
pub record PutsName (old new : State) (result : Result Put TableFault) (n : ℕ) (item : Item)
    : Type 0 where
  -- what was committed before stays as it was
  pub holds : (c : Counts) (v w : Views) → Within c old v w → KeepsCommitted new v
  pub written : (c : Counts) (v w : Views) → Within c old v w
      → OnOk result (Written c new v (with_name n item.0 item.1 w))
  -- it answers what the name was to the item that was there
  pub told : HasCleanDisk new → (c : Counts) (v w : Views) → Within c old v w
      → IfOk result (λ put. put ≡ put_over item.1 (name_at item.0 w.items))
  pub only_store : HasCleanDisk new → IsTrue old.is_open → (c : Counts) (v w : Views)
      → Within c old v w → IfErr result IsMemoryOrStore
