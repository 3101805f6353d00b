-- What a fault of the tables is answered as: choices of this project.
use Rattle.sqlite.specs.State.{State}
use Rattle.pid_moderation.specs.declared.refusal.Refusal.{Refusal}
use Rattle.pid_moderation.specs.declared.refusal.Refusal.TheVariants.{Memory, Store}
pub use Rattle.pid_moderation.specs.Faults.{IsMemoryOrStore}
use Rattle.pid_tables.specs.Rows.Causes.{IsCaused}
use Rattle.pid_tables.specs.declared.rows.fault.TableFault.{TableFault}
use Rattle.pid_tables.specs.declared.rows.fault.TableFault.TheVariants as faults

-- no memory is answered as such, every other fault as one of the store
abbrev pub refusal_for : TableFault → Refusal
refusal_for faults.Memory = Memory
refusal_for faults.Store = Store
refusal_for (faults.NewerSchema n) = Store
refusal_for faults.Damaged = Store

-- memory may run out at any time; the store is answered if it failed or refused, for its cause
abbrev pub IsCausedRefusal : State → State → Refusal → Type 0
IsCausedRefusal old new Memory = Unit {0}
IsCausedRefusal old new Store = IsCaused old new faults.Store
IsCausedRefusal old new e = ⊥
