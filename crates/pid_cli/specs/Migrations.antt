-- What a migration does, prints and reports. Choices of this project.
use Rattle.std.specs.Prelude.{◌≡◌, false, ℕ, List, codes, Result, Ok, Err}
use Rattle.pid_tables.specs.declared.database.Database.{Ghosts}
use Rattle.pid_service.specs.Opening.{MovesAtOnce, MovesJudged, MovesShown, MovesTo}
use Rattle.pid_tables.specs.declared.migration.Step.{Step}
use Rattle.pid_tables.specs.declared.migration.Step.TheVariants.{Created, Moved, Already}
use Rattle.pid_tables.specs.declared.rows.fault.TableFault.{TableFault}
use Rattle.pid_cli_jobs.specs.declared.job_end.JobEnd.{JobEnd}
use Rattle.pid_cli_jobs.specs.declared.unopened.Unopened.{Unopened as Reason}
use Rattle.pid_cli_jobs.specs.Lines.{PrintsOnly, ReportsUnopened, Streams}
use Rattle.pid_cli_jobs.specs.Sessions.{IsOfDatabase}
use Rattle.pid_cli.specs.Openings.{reason_of_tables}

-- the line of what a migration did
abbrev pub step_line : Step → List ℕ
step_line Created = codes "created schema 2\n"
step_line Moved = codes "moved to schema 2\n"
step_line Already = codes "schema 2 already\n"

module _ {C : Type 0} (database : Ghosts C) where
  -- what `migrate` answers and leaves of a new connection, whatever is in the file
  pub record IsMigration (conn : C) (result : Result (C × Step) (TableFault × C)) : Type 0 where
    pub history : MovesTo database.state conn result
    pub at_once : (database.state conn).in_transaction ≡ false
        → MovesAtOnce database.state conn result
    pub shown : (database.state conn).in_transaction ≡ false
        → MovesShown database.state conn result
    pub judged : (database.state conn).in_transaction ≡ false
        → MovesJudged database.state conn result

module _ {C : Type 0} (database : Ghosts C) (IsAt IsClosed : C → Type 0) where
  -- The tables of a new connection to this place were migrated, and it was closed; or it is reported
  -- why not.
  pub data Migrates (w : Streams) (end : JobEnd) : Type 0 where
    Migrated : (conn moved : C) (step : Step) → IsAt conn
        → IsMigration database conn (Ok (moved, step)) → PrintsOnly (step_line step) 0 w end
        → IsClosed moved → Migrates w end
    Unconnected : (why : Reason) → IsOfDatabase why → ReportsUnopened why w end
        → Migrates w end
    Unmoved : (conn left : C) (fault : TableFault) → IsAt conn
        → IsMigration database conn (Err (fault, left)) → ReportsUnopened (reason_of_tables fault) w end
        → Migrates w end
