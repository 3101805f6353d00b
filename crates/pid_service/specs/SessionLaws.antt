-- The laws that lead from one call, opening or migration of registries to the next, and so to the
-- crash prefix: each is the contract of a function of `sessions`. A choice of this project.
use Rattle.std.specs.Prelude.{◌≡◌, ℕ, true, false, List, [], ◌∷◌, ◌++◌, Some, Ok, Err, Result}
use Rattle.pid_moderation.specs.declared.command.Reply.{Reply}
use Rattle.pid_moderation.specs.declared.refusal.Refusal.{Refusal}
use Rattle.pid_moderation.specs.declared.refusal.Refusal.TheVariants.{Failed}
use Rattle.pid_moderation.specs.History.{Asked, History, new_history}
use Rattle.pid_moderation.specs.Judgement.{after, answer, judge}
use Rattle.pid_moderation.specs.Revisions.{taken_over}
use Rattle.pid_moderation.specs.Views.{Views, views_of, without_numbers}
use Rattle.pid_service_laws.specs.Calls.{Call, nothing_sent, obeyed, ran, sent_in}
use Rattle.pid_service_laws.specs.Outcomes.{is_outcome}
use Rattle.pid_service_laws.specs.Registries.{CallsLead, Does, ShowsAgain}
use Rattle.pid_tables.specs.declared.database.Database.{Ghosts}
use Rattle.pid_tables.specs.declared.rows.fault.TableFault.{TableFault}
use Rattle.pid_tables.specs.Rows.Clauses as clauses
use Rattle.pid_tables.specs.Rows.Faults.{IsMemoryOrStore}
use Rattle.pid_tables.specs.Rows.Leaves.{IsShown, found_in}
use Rattle.pid_tables.specs.Rows.Schema.{schema_of}
use Rattle.pid_tables.specs.Rows.Shows.{ShowsIn}
use Rattle.pid_tables.specs.declared.rows.schema_version.Version.TheVariants.{One}
use Rattle.pid_tables.specs.declared.migration.Step.{Step}
use Rattle.pid_tables.specs.Clauses.{IsOpened, ShowsOrBlank}
use Rattle.pid_tables.specs.Creation.{ListsNoTable}
use Rattle.pid_service_laws.specs.declared.faults.ImportEnd.{ImportEnd}
use Rattle.pid_service.specs.declared.registry.Registry.{Registry}
use Rattle.pid_service.specs.declared.running.RunReport.{RunReport}
use Rattle.pid_service.specs.Histories.{FailsBetween, IsReached, OverHistory, Shows}
use Rattle.pid_service_laws.specs.Imports.{AnswersFailed, import_sent}
use Rattle.pid_service.specs.Importing.{ObeysImport}
use Rattle.pid_service.specs.Sessions.{IsAfterStop, KeepsHistory, LeavesTablesTo, ShowsPrefixes}
use Rattle.pid_service.specs.Sessions.{showing}
use Rattle.pid_service.specs.Obeying.{Obeys}
use Rattle.pid_service.specs.Opening.{MovesTo, OpensTo, moved_to}
use Rattle.pid_service.specs.Registries.{HasCleanDisk, connection, is_live}
use Rattle.pid_service.specs.Running.{Runs}

module _ {S : Type 0} (database : Ghosts S) where
  -- The clauses of each call say what a session asks of it.
  pub record CallsMeetSessions : Type 0 where
    -- one that obeys a command
    pub obeys : (old new : Registry S database) (c : Asked) (result : Result Reply Refusal)
        → (HasCleanDisk database new → HasCleanDisk database old)
        → (is_live old ≡ false → (result ≡ Err Failed) × (new ≡ old))
        → OverHistory database old new (λ h. Obeys database result new h c)
        → Does (showing database) old (obeyed c result (is_live new)) new
    -- an import of an input
    pub imports : (old new : Registry S database) (c : Asked) (result : Result Reply ImportEnd)
        → (HasCleanDisk database new → HasCleanDisk database old)
        → (is_live old ≡ false → AnswersFailed result × (new ≡ old))
        → OverHistory database old new (λ h. ObeysImport database result new h c)
        → Does (showing database) old (import_sent c result (is_live new)) new
    -- a list of commands
    pub runs : (old new : Registry S database) (commands : List Asked) (report : RunReport)
        → (HasCleanDisk database new → HasCleanDisk database old)
        → (is_live old ≡ false → (report.replies.items ≡ []) × (report.fault ≡ Some Failed)
        × (new ≡ old))
        → OverHistory database old new (λ h. Runs database report new h commands)
        → Does (showing database) old (ran commands report.replies.items report.fault (is_live new))
        new
    -- one that only looks
    pub looks : (old new : Registry S database)
        → (HasCleanDisk database new → HasCleanDisk database old)
        → (is_live old ≡ false → new ≡ old) → OverHistory database old new (Shows database new)
        → Does (showing database) old nothing_sent new

  -- What a connection shows before the first opening, and the registry that is opened there.
  pub record FirstOpenings : Type 0 where
    -- a database without tables has what the history of a new registry shows
    pub bare : (conn : S) → IsOpened database.state conn
        → ListsNoTable (clauses.seen database.state conn).trees
        → ShowsOrBlank database.state conn new_history
    pub new : IsReached new_history
    -- one that was just opened on tables has the history that they show
    pub there : (conn : S) (h : History) → IsOpened database.state conn
        → IsShown (clauses.seen database.state conn).trees (views_of h)
        → ShowsOrBlank database.state conn h
    -- the registry that is opened there shows that history
    pub opened : (conn : S) (first : Registry S database) (h : History) → IsReached h
        → ShowsOrBlank database.state conn h → OpensTo database conn (Ok first)
        → HasCleanDisk database first → Shows database first h

  -- What becomes of a history that a connection shows, if it is migrated or not opened.
  pub record HistoriesAreKept : Type 0 where
    -- the tables that a migration leaves show it in the schema of today
    pub moved : (conn moved : S) (step : Step) (h : History) → IsReached h
        → ShowsOrBlank database.state conn h → MovesTo database.state conn (Ok (moved, step))
        → clauses.HasCleanDisk database.state moved
        → clauses.AtRest database.state moved (views_of h)
    -- whether it failed or not, it is shown still
    pub migrated : (conn : S) (result : Result (S × Step) (TableFault × S))
        → MovesTo database.state conn result
        → KeepsHistory database database conn (moved_to result)
    -- and if an opening failed, the connection that comes back shows it
    pub unopened : (conn back : S) (fault : TableFault)
        → OpensTo database conn (Err (fault, back)) → KeepsHistory database database conn back
    -- neither answers damage or a later schema
    pub unmoved_for : (conn back : S) (fault : TableFault) (h : History) → IsReached h
        → ShowsOrBlank database.state conn h → MovesTo database.state conn (Err (fault, back))
        → clauses.HasCleanDisk database.state back → IsMemoryOrStore fault
    pub unopened_for : (conn back : S) (fault : TableFault) (h : History) → IsReached h
        → ShowsOrBlank database.state conn h → OpensTo database conn (Err (fault, back))
        → clauses.HasCleanDisk database.state back → IsMemoryOrStore fault

  -- tables of schema 1, which keep no numbers, have the history moved
  abbrev pub EarlierTablesShow : Type 0
  EarlierTablesShow = (conn : S) (v : Views) (h : History) → IsOpened database.state conn
      → ShowsIn One (found_in (schema_of One) (clauses.seen database.state conn).trees) v
      → without_numbers v ≡ without_numbers (views_of h)
      → ShowsOrBlank database.state conn (taken_over h)

-- From the end of a session to the next opening, which may be over another store.
pub record OpeningsShowAgain {S T : Type 0} (from : Ghosts S) (to : Ghosts T) : Type 0 where
  -- what a stop leaves of a connection shows what that showed
  pub stops : (earlier : S) (conn : T) → IsAfterStop from to earlier conn
      → KeepsHistory from to earlier conn
  -- what a stop leaves of a registry has its tables, whether it is live or has failed
  pub stopped : (ended : Registry S from) (conn : T)
      → IsAfterStop from to (connection ended) conn → LeavesTablesTo from to ended conn
  -- so has the connection that a live one hands back as it is closed
  pub closed : (ended : Registry S from) → is_live ended ≡ true
      → LeavesTablesTo from from ended (connection ended)
  -- a registry that is opened on these tables shows again what they showed
  pub opened : (ended : Registry S from) (conn : T) (next : Registry T to)
      → LeavesTablesTo from to ended conn → OpensTo to conn (Ok next)
      → ShowsAgain (showing from) (showing to) ended next

-- Stops, migrations and openings that fail may come between two sessions, as many as there are.
abbrev pub KeepsBetween : {S T U : Type 0} → Ghosts S → Ghosts T → Ghosts U → Type 0
KeepsBetween {S} {T} {U} from by to = (ended : Registry S from) (conn : T) (next : U)
    → LeavesTablesTo from by ended conn → KeepsHistory by to conn next
    → LeavesTablesTo from to ended next

-- The crash prefix, session by session: the history that a first registry shows, and then that of
-- each later one, whose store may be another.
pub record ReopeningsShowPrefixes {S T : Type 0} (from : Ghosts S) (to : Ghosts T) : Type 0 where
  pub none : (first : Registry S from) (start : History) → Shows from first start
      → ShowsPrefixes from first start []
  pub more : (opened ended : Registry S from) (next : Registry T to) (start : History)
      (runs : List (List Call)) (calls : List Call) → ShowsPrefixes from opened start runs
      → CallsLead (showing from) opened calls ended
      → ShowsAgain (showing from) (showing to) ended next → HasCleanDisk to next
      → ShowsPrefixes to next start (runs ++ calls ∷ [])

-- A command under a key met a fault by which a registry failed. After the next opening, and calls
-- that sent nothing, it is sent again and has an outcome: that of the judgement before.
abbrev pub RepeatsEndDoubts : {S T : Type 0} → Ghosts S → Ghosts T → Type 0
RepeatsEndDoubts {S} {T} from to = (ended : Registry S from) (opened between last : Registry T to)
    (h : History) (c : Asked) (key : List ℕ) (calls : List Call) (result : Result Reply Refusal)
    → c.key ≡ Some key
    → FailsBetween from ended h (after h c)
    → ShowsAgain (showing from) (showing to) ended opened
    → CallsLead (showing to) opened calls between
    → sent_in calls ≡ []
    → Does (showing to) between (obeyed c result (is_live last)) last
    → is_outcome result ≡ true
    → HasCleanDisk to last
    → (result ≡ answer (judge (views_of h) c)) × Shows to last (after h c)
