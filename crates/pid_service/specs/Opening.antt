-- What becomes of a database that is opened, or moved to the schema of today.
use Rattle.std.specs.Prelude.{◌≡◌, ◌⊎◌, true, false, IsTrue, Some, Result, Ok, Err, IfErr, IfOk}
use Rattle.std.specs.Prelude.{MatchResult, OnOk}
use Rattle.sqlite.specs.Effect.{Database}
use Rattle.sqlite.specs.State.{State}
use Rattle.sqlite.specs.Tree.{Trees}
use Rattle.pid_moderation.specs.History.{History, new_history}
use Rattle.pid_moderation.specs.Views.{Views, views_of}
use Rattle.pid_tables.specs.declared.rows.fault.TableFault.{TableFault}
use Rattle.pid_tables.specs.declared.rows.schema_version.Version.{Version}
use Rattle.pid_tables.specs.declared.rows.schema_version.Version.TheVariants.{One, Two}
use Rattle.pid_tables.specs.Rows.Clauses as clauses
use Rattle.pid_tables.specs.Rows.Clauses.{seen}
use Rattle.pid_tables.specs.Rows.Faults.{IsMemoryOrStore, IsNotNewerSchema}
use Rattle.pid_tables.specs.Check.Checking.{Explains, FindsVersion}
use Rattle.pid_tables.specs.Check.Shapes.{HasNoTable, HasSomeTable}
use Rattle.pid_tables.specs.declared.database.Database.{Ghosts}
use Rattle.pid_tables.specs.declared.migration.Step.{Step}
use Rattle.pid_tables.specs.declared.migration.Step.TheVariants.{Created, Moved, Already}
use Rattle.pid_tables.specs.AtOnce.{IsCommitted}
use Rattle.pid_tables.specs.Bringing.{NamesLatest}
use Rattle.pid_tables.specs.Clauses as tables
use Rattle.pid_tables.specs.Statements.{IsMadeBy, move_statements, registry_statements}
use Rattle.pid_service.specs.declared.registry.Registry.{Registry}
use Rattle.pid_service.specs.Histories.{IsReached, Shows}
use Rattle.pid_service.specs.Registries as registries
use Rattle.pid_service.specs.Registries.{connection, is_live}

-- the tables are found to be a registry's, in some schema
abbrev pub IsFound : Database → Type 0
IsFound db = (version : Version) × FindsVersion db (Some version)

-- the connection that an opening leaves: the registry's, or the one that came back
abbrev pub connection_left : {S : Type 0} {database : Ghosts S}
    → Result (Registry S database) (TableFault × S) → S
connection_left (Ok r) = connection r
connection_left (Err e) = e.1

-- how an opening ended, without the connection
abbrev pub opening_end : {S X : Type 0} → Result X (TableFault × S) → Result (Unit {0}) TableFault
opening_end (Ok x) = Ok tt
opening_end (Err e) = Err e.0

-- the connection that a migration leaves
abbrev pub moved_to : {S : Type 0} → Result (S × Step) (TableFault × S) → S
moved_to (Ok r) = r.0
moved_to (Err e) = e.1

-- the step of a migration, or its fault
abbrev pub step_of : {S : Type 0} → Result (S × Step) (TableFault × S) → Result Step TableFault
step_of (Ok r) = Ok r.1
step_of (Err e) = Err e.0

module _ {S : Type 0} (state : S → State) where
  -- after this step the tables show the history in the schema of today; or memory ran out or the
  -- store failed, and the connection that comes back still shows it
  abbrev pub StepsTo : Step → Result (S × Step) (TableFault × S) → History → Type 0
  StepsTo step result h = MatchResult result
      (λ r. clauses.HasCleanDisk state r.0 → (r.1 ≡ step) × clauses.AtRest state r.0 (views_of h))
      (λ e. clauses.HasCleanDisk state e.1 → IsMemoryOrStore e.0 × tables.ShowsOrBlank state e.1 h)

  -- while it is open, the tables keep all conditions of a registry in the schema of today
  abbrev pub KeepsConditions : S → Type 0
  KeepsConditions conn = IsTrue (clauses.is_open state conn) → FindsVersion (seen state conn) (Some Two)

  -- while it is open, the fault says what fails of the tables as they are now
  abbrev pub ExplainsNow : S → TableFault → Type 0
  ExplainsNow conn fault = IsTrue (clauses.is_open state conn) → Explains (seen state conn) fault

  -- A migration that only reads or moves is refused, as `migrate` says; or tables of schema 1 were
  -- moved that kept all conditions, and the fault says what fails of what they became.
  abbrev pub RefusesToOpen : S → TableFault → S → Type 0
  RefusesToOpen conn fault back = tables.Refuses state conn fault back
      ⊎ (FindsVersion (seen state conn) (Some One) × ExplainsNow back fault)

  -- while it is open it was open, and sees what it saw
  abbrev pub SeesTheSame : S → S → Type 0
  SeesTheSame old new = IsTrue (clauses.is_open state new)
      → IsTrue (clauses.is_open state old) × (seen state new ≡ seen state old)

  -- whatever views tables of the one schema or the other showed, tables of the schema of today show
  -- them
  abbrev pub KeepsViews : S → S → Type 0
  KeepsViews old new = (version : Version) (v : Views) → clauses.RestsIn state version old v
      → clauses.RestsIn state Two new v

  -- A step may have been made: there was no table, or tables of schema 1 kept all conditions. Views
  -- are shown as before, and the fault says what fails of what is seen now.
  pub record MayHaveMade (old : S) (fault : TableFault) (new : S) : Type 0 where
    pub found : clauses.HasCleanDisk state new → HasSomeTable (seen state old).schema
        → FindsVersion (seen state old) (Some One)
    pub kept : clauses.HasCleanDisk state new → KeepsViews old new
    pub told : clauses.HasCleanDisk state new → ExplainsNow new fault

  -- no registry, and no step: this is why, and everything is as it was
  abbrev pub Rejects : {X : Type 0} → S → S → Result X TableFault → (TableFault → Type 0)
      → Type 0
  Rejects old new result Why = MatchResult result (λ _. ⊥)
      (λ e. Why e × clauses.OnlyReads state old new)

  -- where there is no table, whatever else there is, nothing is written but what makes a registry: a
  -- crash leaves what it left before, or all of it
  abbrev pub WritesRegistry : S → S → Type 0
  WritesRegistry old new = HasNoTable (seen state old).schema
      → clauses.Survives state old new (IsMadeBy state registry_statements old)

  -- and where there is some, whatever others there are, nothing but what moves those of schema 1
  abbrev pub WritesMove : S → S → Type 0
  WritesMove old new = HasSomeTable (seen state old).schema
      → clauses.Survives state old new (IsMadeBy state move_statements old)

  -- such trees were committed: a crash leaves them, and the connection sees them while it is open
  pub record HasWritten (IsSuch : Trees → Type 0) (conn : S) : Type 0 where
    pub sees : IsTrue (clauses.is_open state conn) → IsSuch (seen state conn).trees
    pub leaves : (db : Trees) → (state conn).may_leave db → IsSuch db

  -- What an opening leaves of a connection, whatever is in the file.
  pub record OpensAtOnce {X : Type 0} (old new : S) (result : Result X TableFault)
      : Type 0 where
    pub settled : (state new).in_transaction ≡ false
    pub clean : clauses.HasCleanDisk state new → clauses.HasCleanDisk state old
    -- a crash leaves what it left before, or all of one step
    pub once : tables.IsOneStep state old new
    -- After a fault nothing of the step is seen; or it may have been made, and the fault says what
    -- fails of what is seen now.
    pub back : IfErr result (λ e. tables.IsTakenBack state old new ⊎ MayHaveMade old e new)
    pub made : WritesRegistry old new
    -- a registry that is opened there was written and committed whole
    pub done : clauses.HasCleanDisk state new → HasNoTable (seen state old).schema
        → OnOk result (HasWritten (IsMadeBy state registry_statements old) new)
    pub moved : WritesMove old new
    -- one of tables that were there: the move was written and committed whole, or nothing was
    pub raised : clauses.HasCleanDisk state new → HasSomeTable (seen state old).schema
        → OnOk result (HasWritten (IsMadeBy state move_statements old) new
        ⊎ clauses.OnlyReads state old new)

  -- What an opening answers, by what there is, while the disk returns what was written.
  pub record ExplainsOpening {X : Type 0} (old new : S) (result : Result X TableFault)
      : Type 0 where
    -- Some table: it is opened only if all keep the conditions of a registry in the schema that
    -- they name. Of others the fault says which one fails, and everything is as it was.
    pub told : clauses.HasCleanDisk state new → HasSomeTable (seen state old).schema
        → MatchResult result (λ _. IsFound (seen state old)) (λ e. RefusesToOpen old e new)
    -- Some table, but none of schema 1 that keeps its conditions: nothing is written.
    pub only_read : clauses.HasCleanDisk state new → HasSomeTable (seen state old).schema
        → ¬ (FindsVersion (seen state old) (Some One)) → clauses.OnlyReads state old new
    -- Tables of schema 1 that show views, of a history or not: the fault says what fails of them,
    -- or, while the connection is open, of what they became.
    pub explained : clauses.HasCleanDisk state new → (v : Views) → clauses.RestsIn state One old v
        → IfErr result (λ e. Explains (seen state old) e ⊎ ExplainsNow new e)
    -- No table, whatever else there is: a later schema is answered only of what was made there.
    pub bare : clauses.HasCleanDisk state new → HasNoTable (seen state old).schema
        → IfErr result (λ e. IsNotNewerSchema e ⊎ ExplainsNow new e)
    -- No table, but something else under the name of one.
    pub met : clauses.HasCleanDisk state new → HasNoTable (seen state old).schema
        → (IsTrue (clauses.is_open state old) → tables.IsNameTaken state old)
        → Rejects old new result IsNotNewerSchema
    -- A connection that a fault has shut.
    pub shut : clauses.HasCleanDisk state new → clauses.is_open state old ≡ false
        → Rejects old new result IsMemoryOrStore

  -- What is opened, whatever there was.
  pub record KeepsTables {X : Type 0} (old new : S) (result : Result X TableFault)
      : Type 0 where
    -- it keeps all conditions of a registry in the schema of today
    pub judged : clauses.HasCleanDisk state new → IfOk result (λ _. KeepsConditions new)
    -- and shows the views that were shown, in whichever schema
    pub kept : clauses.HasCleanDisk state new → IfOk result (λ _. KeepsViews old new)

  -- What a migration leaves of a connection, whatever is in the file.
  pub record MovesAtOnce (conn : S) (result : Result (S × Step) (TableFault × S))
      : Type 0 where
    pub settled : (state (moved_to result)).in_transaction ≡ false
    -- a crash leaves what it left before, or all of one step; and after a fault nothing of it is
    -- seen
    pub once : tables.IsOneStep state conn (moved_to result)
    pub back : IfErr result (λ e. tables.IsTakenBack state conn e.1)
    pub made : WritesRegistry conn (moved_to result)
    -- a value means there that all of it is seen, and that a crash leaves it
    pub done : clauses.HasCleanDisk state (moved_to result) → HasNoTable (seen state conn).schema
        → OnOk result (IsCommitted (IsMadeBy state registry_statements conn)
        (state (moved_to result)))
    pub moved : WritesMove conn (moved_to result)
    -- and so does `Moved` of a move
    pub raised : clauses.HasCleanDisk state (moved_to result) → IfOk result (λ r. r.1 ≡ Moved
        → IsCommitted (IsMadeBy state move_statements conn) (state (moved_to result)))
    -- One that fails, or finds nothing to do, leaves all that is seen as it was.
    pub unchanged : MatchResult result (λ r. r.1 ≡ Already → SeesTheSame conn r.0)
        (λ e. SeesTheSame conn e.1)
    -- If nothing had to be done, nothing is; and a fault other than `Memory` and `Store` changes
    -- nothing.
    pub only_read : MatchResult result (λ r. r.1 ≡ Already → clauses.OnlyReads state conn r.0)
        (λ e. clauses.HasCleanDisk state e.1 → ¬ (IsMemoryOrStore e.0)
        → clauses.OnlyReads state conn e.1)

  -- What the laws over sessions ask of a migration.
  pub record MovesTo (conn : S) (result : Result (S × Step) (TableFault × S))
      : Type 0 where
    -- the disk had returned what was written before the call too
    pub clean : clauses.HasCleanDisk state (moved_to result) → clauses.HasCleanDisk state conn
    -- the history that the tables showed is shown afterwards
    pub created : tables.RestsBare state conn → StepsTo Created result new_history
    pub moved : (h : History) → IsReached h → clauses.RestsIn state One conn (views_of h)
        → StepsTo Moved result h
    pub already : (h : History) → IsReached h → clauses.AtRest state conn (views_of h)
        → StepsTo Already result h

  -- What becomes of views that the tables show, of a history or not.
  pub record MovesShown (conn : S) (result : Result (S × Step) (TableFault × S))
      : Type 0 where
    -- Tables of schema 2 are only read, whatever a crash would leave in their place.
    pub left_alone : (v : Views) → clauses.RestsIn state Two conn v
        → clauses.HasCleanDisk state (moved_to result)
        → clauses.OnlyReads state conn (moved_to result)
        × MatchResult result (λ r. r.1 ≡ Already) (λ e. IsMemoryOrStore e.0)
    -- Of tables of schema 1 the fault says what fails of them.
    pub explained : (v : Views) → clauses.RestsIn state One conn v
        → clauses.HasCleanDisk state (moved_to result)
        → IfErr result (λ e. Explains (seen state conn) e.0)
    -- Whatever views tables of the one schema or the other show, tables of schema 2 show them
    -- afterwards.
    pub kept : clauses.HasCleanDisk state (moved_to result)
        → IfOk result (λ r. KeepsViews conn r.0)

  -- Whatever the tables are, they are judged before anything is done.
  pub record MovesJudged (conn : S) (result : Result (S × Step) (TableFault × S))
      : Type 0 where
    -- Those of schema 1 are judged before they are moved, and if a condition fails, the fault says
    -- which one, and everything is as it was.
    pub told : clauses.HasCleanDisk state (moved_to result) → HasSomeTable (seen state conn).schema
        → MatchResult result (λ r. tables.Brings state conn r.1 r.0)
        (λ e. tables.Refuses state conn e.0 e.1)
    -- `Already` is answered only if the labels show schema 2.
    pub named : clauses.HasCleanDisk state (moved_to result)
        → IfOk result (λ r. r.1 ≡ Already → NamesLatest (seen state conn))
    -- Labels of schema 2 are handed on, as far as it is known what was there.
    pub latest : clauses.HasCleanDisk state (moved_to result)
        → IfOk result (λ r. IsTrue (clauses.is_open state r.0)
        → tables.HandsLatest state conn r.1 r.0)
    -- If there is no table, whatever else there is, it answers no other step than that they were
    -- made, and no later schema.
    pub bare : clauses.HasCleanDisk state (moved_to result) → HasNoTable (seen state conn).schema
        → MatchResult result (λ r. r.1 ≡ Created) (λ e. IsNotNewerSchema e.0)
    -- Something else under the name of a table is refused,
    pub met : clauses.HasCleanDisk state (moved_to result) → HasNoTable (seen state conn).schema
        → (IsTrue (clauses.is_open state conn) → tables.IsNameTaken state conn)
        → Rejects conn (moved_to result) (step_of result) IsNotNewerSchema
    -- and so is a connection that a fault has shut.
    pub shut : clauses.HasCleanDisk state (moved_to result) → clauses.is_open state conn ≡ false
        → Rejects conn (moved_to result) (step_of result) IsMemoryOrStore

module _ {S : Type 0} (database : Ghosts S) where
  -- a registry that shows the history; or memory ran out or the store failed, and the connection
  -- that comes back still shows it, as does everything that a crash may leave
  abbrev pub Opens : Result (Registry S database) (TableFault × S) → History → Type 0
  Opens result h = MatchResult result
      (λ r. registries.HasCleanDisk database r → Shows database r h)
      (λ e. clauses.HasCleanDisk database.state e.1
      → IsMemoryOrStore e.0 × tables.ShowsOrBlank database.state e.1 h)

  -- The registry that is opened.
  pub record OpensRegistry (conn : S) (result : Result (Registry S database)
      (TableFault × S)) : Type 0 where
    pub lives : IfOk result (λ r. is_live r ≡ true)
    pub kept : KeepsTables database.state conn (connection_left result) (opening_end result)

  -- What the laws over sessions ask of an opening.
  pub record OpensTo (conn : S) (result : Result (Registry S database)
      (TableFault × S)) : Type 0 where
    -- the disk had returned what was written before the call too
    pub clean : clauses.HasCleanDisk database.state (connection_left result)
        → clauses.HasCleanDisk database.state conn
    -- Tables that show a history are opened with that history, whichever schema they have. If
    -- there is no table, a new registry is made.
    pub opened : (h : History) → IsReached h → tables.ShowsOrBlank database.state conn h
        → Opens result h
