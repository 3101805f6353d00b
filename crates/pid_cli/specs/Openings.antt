-- The registry at a place: opened on a new connection, and closed. Choices of this project.
use Rattle.std.specs.Prelude.{◌≡◌, false, IsTrue, Result, Ok, Err}
use Rattle.pid_tables.specs.declared.database.Database.{Ghosts}
use Rattle.pid_service.specs.declared.registry.Registry.{Registry}
use Rattle.pid_service.specs.Histories.{as_calls}
use Rattle.pid_service.specs.Opening.{ExplainsOpening, OpensAtOnce, OpensRegistry, OpensTo}
use Rattle.pid_service.specs.Opening.{connection_left, opening_end}
use Rattle.pid_service.specs.Registries.{connection, is_live}
use Rattle.pid_tables.specs.declared.rows.fault.TableFault.{TableFault}
use Rattle.pid_tables.specs.declared.rows.fault.TableFault.TheVariants as tables
use Rattle.pid_cli_jobs.specs.declared.job_end.JobEnd.{JobEnd}
use Rattle.pid_cli_jobs.specs.declared.unopened.Unopened.{Unopened as Reason}
use Rattle.pid_cli_jobs.specs.declared.unopened.Unopened.TheVariants.{Memory, Store, Damaged}
use Rattle.pid_cli_jobs.specs.declared.unopened.Unopened.TheVariants.{NewerSchema}
use Rattle.pid_cli_jobs.specs.Lines.{Streams}
use Rattle.pid_cli_jobs.specs.Sessions.{IsOfDatabase, Works}

-- why none was opened, by its tables
abbrev pub reason_of_tables : TableFault → Reason
reason_of_tables tables.Memory = Memory
reason_of_tables tables.Store = Store
reason_of_tables tables.Damaged = Damaged
reason_of_tables (tables.NewerSchema schema) = NewerSchema schema

module _ {C : Type 0} (database : Ghosts C) where
  -- what `open` answers and leaves of a new connection, whatever is in the file
  pub record IsOpening (conn : C) (result : Result (Registry C database) (TableFault × C))
      : Type 0 where
    pub history : OpensTo database conn result
    pub registry : (database.state conn).in_transaction ≡ false → OpensRegistry database conn result
    pub at_once : (database.state conn).in_transaction ≡ false
        → OpensAtOnce database.state conn (connection_left result) (opening_end result)
    pub explains : (database.state conn).in_transaction ≡ false
        → ExplainsOpening database.state conn (connection_left result) (opening_end result)

module _ {C : Type 0} (database : Ghosts C) (IsAt : C → Type 0) where
  -- the registry was opened on a new connection to this place
  pub record IsOpenedAt (opened : Registry C database) : Type 0 where
    pub conn : C
    pub at : IsAt conn
    pub opens : IsOpening database conn (Ok opened)

  -- none was: there was no connection, or `open` left the connection so
  pub data IsUnopened (why : Reason) : Type 0 where
    Unconnected : IsOfDatabase why → IsUnopened why
    Refused : (conn left : C) (fault : TableFault) → IsAt conn
        → IsOpening database conn (Err (fault, left)) → why ≡ reason_of_tables fault → IsUnopened why

module _ {C : Type 0} (database : Ghosts C) (IsAt IsClosed : C → Type 0) where
  -- what a job does with the registry at this place, alone
  abbrev pub WorksAt
      : (Streams → JobEnd → Registry C database → Registry C database → Type 0)
      → Streams → JobEnd → Type 0
  WorksAt = Works (as_calls database) (IsOpenedAt database IsAt) (IsUnopened database IsAt)
      (λ r. IsTrue (is_live r) → IsClosed (connection r))
