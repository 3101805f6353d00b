-- Runs of the program on the files of a database, each with a store of its own. Choices of this
-- project.
use Rattle.std.specs.Prelude.{List, [], ◌∷◌, ◌++◌, Ok}
use Rattle.sqlite.specs.Files.{file_state}
use Rattle.sqlite.specs.Held.{AreDatabases, Held}
use Rattle.sqlite.specs.State as states
use Rattle.sqlite_disk.specs.declared.Disk as disk
use Rattle.sqlite_store.specs.FileStore.{recovers}
use Rattle.sqlite_store.specs.declared.store.FileStore.{FileStore}
use Rattle.pid_file.specs.declared.io.Output as outputs
use Rattle.pid_moderation.specs.History.{History}
use Rattle.pid_service_laws.specs.Calls.{Call}
use Rattle.pid_service_laws.specs.Registries.{CallsLead}
use Rattle.pid_tables.specs.Rows.Clauses as clauses
use Rattle.pid_tables.specs.Clauses.{ShowsOrBlank}
use Rattle.pid_tables.specs.declared.database.Database.{Ghosts}
use Rattle.pid_service.specs.declared.registry.Registry.{Registry}
use Rattle.pid_service.specs.Histories.{Shows}
use Rattle.pid_service.specs.Headline.{TellsPrefixes}
use Rattle.pid_service.specs.Sessions.{IsAfterSession, IsAfterStop, ShowsPrefixes, showing}
use Rattle.pid_service.specs.Opening.{OpensTo}
use Rattle.pid_service.specs.Registries.{HasCleanDisk, connection}
use Rattle.pid_cli_jobs.specs.Files.{IsNextRun}

-- The connection of the next run was opened after a stop of the earlier one, on what that left: what
-- both show to tables is what their files hold.
abbrev pub FilesShowWhatWasLeft : {D E : Type 0} {g : disk.Ghosts D} {k : disk.Ghosts E}
    → Ghosts (Held (FileStore D g)) → Ghosts (Held (FileStore E k)) → Type 0
FilesShowWhatWasLeft {D} {E} {g} {k} from to = (earlier : Held (FileStore D g))
    (conn : Held (FileStore E k)) → AreDatabases (recovers earlier.store) → IsNextRun earlier conn
    → states.HasCleanDisk (file_state conn) → ∥ IsAfterStop from to earlier conn ∥₁

-- A registry that showed a history leaves databases alone, after any calls.
abbrev pub CallsLeaveDatabases : {C : Type 0} → Ghosts C → Type 0
CallsLeaveDatabases {C} database = (opened ended : Registry C database) (h : History)
    (calls : List Call) → Shows database opened h
    → CallsLead (showing database) opened calls ended
    → HasCleanDisk database ended
    → AreDatabases (database.state (connection ended)).may_leave

-- A connection whose tables show a history leaves databases alone: one that a migration left, or that
-- came back from an opening that failed.
abbrev pub TablesLeaveDatabases : {C : Type 0} → Ghosts C → Type 0
TablesLeaveDatabases {C} database = (conn : C) (h : History) → ShowsOrBlank database.state conn h
    → clauses.HasCleanDisk database.state conn → AreDatabases (database.state conn).may_leave

-- The crash prefix, run by run: let a registry show a history after earlier runs, and calls lead to
-- its end. A registry that is opened after that session shows the history after one run more.
abbrev pub RunsShowPrefixes : {C D W : Type 0} → Ghosts C → Ghosts D → outputs.Ghosts W → Type 0
RunsShowPrefixes {C} {D} from to writer = (opened ended : Registry C from) (conn : D)
    (next : Registry D to) (start : History) (runs : List (List Call)) (calls : List Call)
    → ShowsPrefixes from opened start runs
    → CallsLead (showing from) opened calls ended
    → ∥ IsAfterSession from to ended conn ∥₁
    → OpensTo to conn (Ok next)
    → HasCleanDisk to next
    → ∥ TellsPrefixes to writer next start (runs ++ calls ∷ []) ∥₁
