-- A database before its tables are made, and what the making leaves.
use Rattle.std.specs.Prelude.{◌≡◌, ◌⊎◌, ℕ, true, false, List, [], ◌∷◌, fold, IsTrue, codes}
use Rattle.std.specs.Prelude.{Result, IfErr, OnErr, OnOk, MatchResult}
use Rattle.std.specs.List.{AllByRecursion}
use Rattle.sqlite.specs.Change.{created, is_used}
use Rattle.sqlite.specs.Effect.{Database, IsDatabase}
use Rattle.sqlite.specs.Schema.{Schema}
use Rattle.sqlite.specs.State.{State, HasCleanDisk}
use Rattle.sqlite.specs.Table.{Table}
use Rattle.sqlite.specs.Tree.{Trees}
use Rattle.sqlite_rules.specs.Lists.{Has}
use Rattle.pid_moderation.specs.History.{new_history}
use Rattle.pid_moderation.specs.Views.{views_of}
use Rattle.pid_tables.specs.declared.rows.fault.TableFault.{TableFault}
use Rattle.pid_tables.specs.Rows.Faults.{IsMemoryOrStore, IsNotNewerSchema}
use Rattle.pid_tables.specs.Rows.Schema.{no_schema}
use Rattle.pid_tables.specs.Rows.Shows.{Shows}
use Rattle.pid_tables.specs.Rows.Leaves.{AtRest, OnlyReads, as_found}

-- the schema that the tables make, in this order
abbrev pub making : List Table → Schema
making = fold created no_schema

pub record AreMade (tables : List Table) (db : Database) : Type 0 where
  pub schema : db.schema ≡ making tables
  pub sound : IsDatabase db
  pub empty : AllByRecursion (λ (t : Table). db.trees t.tree ≡ []) tables

-- trees that list no table
abbrev pub ListsNoTable : Trees → Type 0
ListsNoTable db = IsDatabase (record { schema = no_schema; trees = db })

-- everything that a crash may leave has no table, or shows the history of a new registry
pub record LeavesBareOrNew (s : State) : Type 0 where
  pub each : HasCleanDisk s → (db : Trees) → s.may_leave db
      → ListsNoTable db ⊎ Shows (as_found db) (views_of new_history)

-- outside a transaction, while it is open, the database has no table; a crash may leave the new
-- registry, if one could not be made, and the next call may try again
pub record RestsBare (s : State) : Type 0 where
  pub settled : s.in_transaction ≡ false
  pub same : IsTrue s.is_open → s.now ≡ s.committed
  pub empty : IsTrue s.is_open → AreMade [] s.now
  pub leaves : LeavesBareOrNew s

abbrev pub table_names : List (List ℕ)
table_names = codes "meta" ∷ codes "account" ∷ codes "item" ∷ codes "submission" ∷ codes "remark"
    ∷ codes "receipt" ∷ codes "item_since" ∷ []

-- some table, index or view has the name of one of the seven
abbrev pub IsNameTaken : State → Type 0
IsNameTaken s = (name : List ℕ) × Has table_names name × (is_used s.now.schema name ≡ true)

-- If there is no table, a new registry is made. After a fault there is still none, and it says
-- nothing of the rows.
pub record MakesNew {X : Type 0} (old new : State) (result : Result X TableFault) : Type 0 where
  pub made : RestsBare old → OnOk result (AtRest new (views_of new_history))
  pub only_store : HasCleanDisk new → RestsBare old → IfErr result IsMemoryOrStore
  pub bare : RestsBare old → OnErr result (RestsBare new)

-- If a name is taken, or a fault has shut the connection, nothing is made.
pub record MakesNothing {X : Type 0} (old new : State) (result : Result X TableFault)
    : Type 0 where
  pub rests : (IsTrue old.is_open → IsNameTaken old) → OnlyReads old new
  pub refused : HasCleanDisk new → (IsTrue old.is_open → IsNameTaken old)
      → MatchResult result (λ _. ⊥) IsNotNewerSchema
  pub shut : HasCleanDisk new → old.is_open ≡ false
      → MatchResult result (λ _. ⊥) IsMemoryOrStore
  -- Whatever there is, no later schema is named.
  pub never : HasCleanDisk new → IfErr result IsNotNewerSchema
