-- Registries as `pid_service_laws` speaks of them, and what comes between one opening and the
-- next, which may be over another store. Choices of this project.
use Rattle.std.specs.Prelude.{◌≡◌, ◌⊎◌, ◌↔◌, List, Result, Err}
use Rattle.pid_ident.specs.Trees.{TreeMap}
use Rattle.pid_file.specs.Printing.{print}
use Rattle.pid_reader.specs.Reading.{Reads}
use Rattle.pid_moderation.specs.History.{History}
use Rattle.pid_moderation.specs.Writes.{tree_of}
use Rattle.pid_service_laws.specs.Calls.{Call}
use Rattle.pid_service_laws.specs.CrashPrefix.{IsAfterPrefixes}
use Rattle.pid_tables.specs.Rows.Clauses as clauses
use Rattle.pid_tables.specs.Clauses.{IsOpened, ShowsOrBlank}
use Rattle.pid_tables.specs.declared.database.Database.{Ghosts}
use Rattle.pid_tables.specs.declared.migration.Step.{Step}
use Rattle.pid_tables.specs.declared.rows.fault.TableFault.{TableFault}
use Rattle.pid_service.specs.declared.registry.Registry.{Registry}
use Rattle.pid_service.specs.Histories.{IsReached, Shows, FailsBetween}
pub use Rattle.pid_service.specs.Histories.{showing}
use Rattle.pid_service.specs.Opening.{MovesTo, OpensTo, moved_to}
use Rattle.pid_service.specs.Registries.{HasCleanDisk, connection}

module _ {S T : Type 0} (from : Ghosts S) (to : Ghosts T) where
  -- A connection was just opened on trees that a crash of an earlier one may leave, which may have
  -- been over another store: each process has its own. That one's disk returned what was written,
  -- which the new connection cannot know.
  pub record IsAfterStop (earlier : S) (conn : T) : Type 0 where
    pub clean : clauses.HasCleanDisk from.state earlier
    pub opened : IsOpened to.state conn
    pub found : (from.state earlier).may_leave (clauses.seen to.state conn).trees

  -- While the disk returns what was written, the second connection shows the history that the first
  -- one showed, in whichever schema.
  pub record KeepsHistory (earlier : S) (conn : T) : Type 0 where
    pub clean : clauses.HasCleanDisk to.state conn → clauses.HasCleanDisk from.state earlier
    pub shown : clauses.HasCleanDisk to.state conn → (h : History) → IsReached h
        → ShowsOrBlank from.state earlier h → ShowsOrBlank to.state conn h

  -- while the disk of a connection returns what was written, its tables are what a registry showed;
  -- if that had failed, they are of the one history or the other
  pub record LeavesTablesTo (ended : Registry S from) (conn : T) : Type 0 where
    pub clean : clauses.HasCleanDisk to.state conn → HasCleanDisk from ended
    pub shown : clauses.HasCleanDisk to.state conn → (h : History) → Shows from ended h
        → ShowsOrBlank to.state conn h
    pub either : clauses.HasCleanDisk to.state conn → (h next : History)
        → FailsBetween from ended h next
        → ShowsOrBlank to.state conn h ⊎ ShowsOrBlank to.state conn next

-- A connection that comes after a session: a stop ends that, wherever it comes; then openings that
-- fail, migrations and further stops may follow, as many as there are. (A stop within an opening is
-- one that fails, since each call of its disk does from then on, and a stop after it.)
pub data IsAfterSession {S T : Type 0} (from : Ghosts S) (to : Ghosts T) (ended : Registry S from)
    : T → Type 0 where
  Stop : (conn : T) → IsAfterStop from to (connection ended) conn
      → IsAfterSession from to ended conn
  NextStop : (earlier conn : T) → IsAfterSession from to ended earlier
      → IsAfterStop to to earlier conn → IsAfterSession from to ended conn
  FailedOpening : (conn back : T) (fault : TableFault) → IsAfterSession from to ended conn
      → OpensTo to conn (Err (fault, back)) → IsAfterSession from to ended back
  Migration : (conn : T) (result : Result (T × Step) (TableFault × T))
      → IsAfterSession from to ended conn → MovesTo to.state conn result
      → IsAfterSession from to ended (moved_to result)

-- A registry shows the history after the one at the start, to which commands led, and a prefix of
-- the commands of each session, described by its calls.
pub record ShowsPrefixes {S : Type 0} (database : Ghosts S) (r : Registry S database)
    (start : History) (calls : List (List Call)) : Type 0 where
  pub from : IsReached start
  pub history : History
  pub shown : Shows database r history
  pub prefixes : IsAfterPrefixes start calls history
  -- the printed text of that tree reads back to it, and to no other tree
  pub read_back : (t : TreeMap) → Reads (print (tree_of history)) t ↔ (t ≡ tree_of history)
