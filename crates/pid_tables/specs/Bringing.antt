-- What a database that is moved to schema 2 had, and what becomes of it.
use Rattle.std.specs.Prelude.{◌≡◌, ◌⊎◌, ℕ, false, List, Some, codes}
use Rattle.std.specs.Prelude.{Result, IfErr, IfOk, OnOk, MatchResult, IsTrue}
use Rattle.sqlite.specs.Effect.{Database}
use Rattle.sqlite.specs.Order.{Row}
use Rattle.sqlite.specs.State.{State, HasCleanDisk, Survives}
use Rattle.sqlite.specs.Tree.{Trees}
use Rattle.sqlite_rules.specs.Lists.{Has}
use Rattle.pid_moderation.specs.History.{History, new_history}
use Rattle.pid_moderation.specs.Sound.{IsSound}
use Rattle.pid_moderation.specs.Views.{Views, views_of}
use Rattle.pid_tables.specs.declared.rows.fault.TableFault.{TableFault}
use Rattle.pid_tables.specs.declared.rows.schema_version.Version.{Version}
use Rattle.pid_tables.specs.declared.rows.schema_version.Version.TheVariants.{One, Two}
use Rattle.pid_tables.specs.Rows.Faults.{IsMemoryOrStore, IsNotNewerSchema}
use Rattle.pid_tables.specs.Rows.LabelRows.{HasLabel, ShowsNumber}
use Rattle.pid_tables.specs.Rows.Schema.{latest}
use Rattle.pid_tables.specs.Rows.Leaves.{AtRest, OnlyReads, RestsIn}
use Rattle.pid_tables.specs.Check.Checking.{Explains, FindsVersion}
use Rattle.pid_tables.specs.Check.Conditions.{label_row}
use Rattle.pid_tables.specs.Check.Shapes.{HasNoTable, HasSomeTable, IsMadeFirst, ShowsRows}
use Rattle.pid_tables.specs.AtOnce.{IsCommitted}
use Rattle.pid_tables.specs.Creation.{IsNameTaken, RestsBare}
use Rattle.pid_tables.specs.declared.migration.Step.{Step}
use Rattle.pid_tables.specs.declared.migration.Step.TheVariants.{Created, Moved, Already}

-- the query of all labels
abbrev pub labels_text : List ℕ
labels_text = codes "SELECT label, value FROM meta"

-- the labels show schema 2, whatever else the schema has: the query of its label answers 2 first,
-- or that of all labels answers it in some row
abbrev pub ShowsLatest : Database → Type 0
ShowsLatest db = ShowsNumber db (codes "schema") (latest)
    ⊎ ((rows : List Row) × ShowsRows db labels_text rows × Has rows (label_row (codes "schema", latest)))

-- and if the tables of a schema were made first, whatever comes after them, storage has that
-- label
pub record NamesLatest (db : Database) : Type 0 where
  pub shown : ShowsLatest db
  pub stored : (version : Version) → IsMadeFirst version db.schema
      → HasLabel db.trees (codes "schema") (latest)

-- Some table was there, and this step was made.
pub data Brings (old : State) (step : Step) (new : State) : Type 0 where
  -- tables of schema 2 were only read
  Left : step ≡ Already → OnlyReads old new → Brings old step new
  -- those of schema 1 were moved, since they keep all conditions of a registry
  Raised : step ≡ Moved → FindsVersion old.now (Some One) → Brings old step new

-- Some table was there, and this fault is answered.
pub data Refuses (old : State) (fault : TableFault) (new : State) : Type 0 where
  -- it says which condition of a registry fails, and everything is as it was
  Fails : Explains old.now fault → OnlyReads old new → Refuses old fault new
  -- none fails, and tables of schema 1 could not be moved, which says nothing of a later one
  Stays : FindsVersion old.now (Some One) → IsNotNewerSchema fault → Refuses old fault new

-- What was moved has the labels of schema 2: tables that were left alone, whatever they are, show
-- them; and those that were made from nothing, or moved while views were shown in schema 1, have
-- that label in storage.
abbrev pub HandsLatest : State → Step → State → Type 0
HandsLatest old Created new = RestsBare old → HasLabel new.now.trees (codes "schema") 2
HandsLatest old Moved new = (v : Views) → RestsIn One old v
    → HasLabel new.now.trees (codes "schema") 2
HandsLatest old Already new = NamesLatest new.now

-- What was shown is shown afterwards.
pub record MigratesShown (old new : State) (result : Result Step TableFault) : Type 0 where
  -- If there is no table, a new registry is made; a crash leaves no table, or the new registry.
  -- After a fault there is none still, so that the next call goes on.
  pub created : HasCleanDisk new → RestsBare old
      → MatchResult result (λ step. (step ≡ Created) × AtRest new (views_of new_history))
      (λ fault. IsMemoryOrStore fault × RestsBare new)
  -- Tables of schema 1 show the same history afterwards, in schema 2, or after a fault in schema 1;
  -- and so does whatever a crash leaves.
  pub moved : HasCleanDisk new → (h : History) → IsSound h → RestsIn One old (views_of h)
      → MatchResult result (λ step. (step ≡ Moved) × AtRest new (views_of h))
      (λ fault. IsMemoryOrStore fault × RestsIn One new (views_of h))
  -- Whatever views they show, of a history or not: a fault says which condition fails, or nothing
  -- of the rows.
  pub told : HasCleanDisk new → (v : Views) → RestsIn One old v → IfErr result (Explains old.now)
  -- Tables of schema 2 are only read, whatever a crash would leave in their place.
  pub already : HasCleanDisk new → (v : Views) → RestsIn Two old v
      → MatchResult result (λ step. (step ≡ Already) × OnlyReads old new)
      (λ fault. IsMemoryOrStore fault × OnlyReads old new)
  -- Whatever views are shown, in the one schema or the other, tables of schema 2 show them
  -- afterwards.
  pub kept : HasCleanDisk new → (version : Version) (v : Views) → RestsIn version old v
      → OnOk result (RestsIn Two new v)

-- Whatever the tables are, they are judged before anything is done; `IsMoved` is what moving those
-- of schema 1 comes to.
pub record MigratesJudged (IsMoved : Trees → Type 0) (old new : State)
    (result : Result Step TableFault) : Type 0 where
  -- Those of schema 1 are moved only if they keep all conditions, and a judgement changes
  -- nothing.
  pub found : HasCleanDisk new → HasSomeTable old.now.schema
      → MatchResult result (λ step. Brings old step new) (λ fault. Refuses old fault new)
  -- Nothing is written but what moves them: a crash leaves what it left before, or all of it.
  pub moved : HasSomeTable old.now.schema → Survives old new IsMoved
  -- If `Moved` is answered, the connection sees all of it, and a crash leaves it.
  pub done : HasCleanDisk new → IfOk result (λ step. step ≡ Moved → IsCommitted IsMoved new)
  -- `Already` is answered only if the labels show schema 2,
  pub named : HasCleanDisk new → IfOk result (λ step. step ≡ Already → NamesLatest old.now)
  -- and then nothing is done to other tables either
  pub only_read : IfOk result (λ step. step ≡ Already → OnlyReads old new)
  -- Labels of schema 2 are handed on, as far as it is known what was there.
  pub latest : HasCleanDisk new
      → IfOk result (λ step. IsTrue new.is_open → HandsLatest old step new)

-- If there is no table, whatever else there is; `IsMade` is what making a registry comes to.
pub record MigratesNone (IsMade : Trees → Type 0) (old new : State)
    (result : Result Step TableFault) : Type 0 where
  -- Nothing is written but what makes a registry: a crash leaves what it left before, or all of it.
  pub made : HasNoTable old.now.schema → Survives old new IsMade
  -- If a value is answered, the connection sees all of it, and a crash leaves it.
  pub done : HasCleanDisk new → HasNoTable old.now.schema → OnOk result (IsCommitted IsMade new)
  -- It answers no other step than that they were made, and reports no later schema.
  pub bare : HasCleanDisk new → HasNoTable old.now.schema
      → MatchResult result (λ step. step ≡ Created) IsNotNewerSchema
  -- Something else under the name of a table is refused, and left as it is.
  pub met : HasCleanDisk new → HasNoTable old.now.schema
      → (IsTrue old.is_open → IsNameTaken old)
      → MatchResult result (λ _. ⊥) (λ fault. IsNotNewerSchema fault × OnlyReads old new)
  -- So is a connection that a fault has shut.
  pub shut : HasCleanDisk new → old.is_open ≡ false
      → MatchResult result (λ _. ⊥) (λ fault. IsMemoryOrStore fault × OnlyReads old new)
