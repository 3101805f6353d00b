-- Tables on their way: the first of the seven are made, and have no rows. Serves private functions
-- alone; no promise rests on it.
use Rattle.std.specs.Prelude.{◌≡◌, ℕ, true, false, List, [], ◌∷◌, ◌++◌, None, Some, if◌then◌else◌, IsTrue}
use Rattle.std.specs.Prelude.{Result, Ok, Err, MatchResult}
use Rattle.std.specs.Str.{bytes_eq}
use Rattle.std.specs.List.{AllByRecursion}
use Rattle.sqlite.specs.Change.{created, next_tree, is_used}
use Rattle.sqlite.specs.Command.TheVariants.{CreateTable}
use Rattle.sqlite.specs.Compile.{table_defined_by}
use Rattle.sqlite.specs.Does.{lacks_sequence}
use Rattle.sqlite.specs.Effect.{Database, IsDatabase}
use Rattle.sqlite.specs.Listing.{understood}
use Rattle.sqlite.specs.Schema.{Schema}
use Rattle.sqlite.specs.State.{State, HasCleanDisk, text_of}
use Rattle.sqlite.specs.Table.{Table}
use Rattle.sqlite_resolve.specs.declared.compiled.Compiled.{Compiled}
use Rattle.sqlite_resolve.specs.declared.error.CompileError.{CompileError}
use Rattle.pid_tables.specs.declared.rows.fault.TableFault.{TableFault}
use Rattle.pid_tables.specs.Rows.Faults.{IsMemoryOrStore, IsNotNewerSchema}
use Rattle.pid_tables.specs.Rows.PairRows.{Map, RowsAre}
use Rattle.pid_tables.specs.Rows.Schema.{pid_schema}
use Rattle.pid_tables.specs.Rows.Schema as tables
use Rattle.pid_tables.specs.Rows.TableRows.{meta_row}
pub use Rattle.pid_tables.specs.Creation.{making}
use Rattle.pid_tables.specs.Creation.{AreMade}

-- one statement that defines a table
abbrev pub IsDefinition : List ℕ → Compiled → Type 0
IsDefinition text c = (c.command ≡ CreateTable) × (c.returning ≡ None) × (c.formats ≡ [])
    × (text_of text c ≡ text)

abbrev pub IsKnownDefinition : List ℕ → Result Compiled CompileError → Type 0
IsKnownDefinition text (Ok c) = IsDefinition text c
IsKnownDefinition text (Err e) = ⊥

-- in the schema of the tables so far, the text makes this table
pub record Creates (so_far : List Table) (text : List ℕ) (table : Table) : Type 0 where
  pub known : IsKnownDefinition text (understood (making so_far) text)
  pub defined : table_defined_by text ≡ Ok (record table { tree = 0 })
  pub tree : next_tree (making so_far) ≡ table.tree
  pub alone : lacks_sequence (created (making so_far) (record table { tree = 0 })) ≡ false

-- the texts make these tables, one after the other
abbrev pub CreatesInTurn : List Table → List (List ℕ × Table) → Type 0
CreatesInTurn so_far [] = Unit {0}
CreatesInTurn so_far ((text, table) ∷ more) = Creates so_far text table
    × ((making so_far).tables ≡ so_far) × CreatesInTurn (so_far ++ table ∷ []) more

-- A step of the making, inside a transaction: if the first of these are made it answers a value
-- only with the others made, and a fault only if there is no memory, or if the store failed
-- or refused.
abbrev pub Makes : {X : Type 0} → State → State → Result X TableFault → List Table → List Table
    → Type 0
Makes old new result before after = HasCleanDisk new → IsTrue old.in_transaction
    → (IsTrue old.is_open → AreMade before old.now)
    → MatchResult result (λ _. AreMade after new.now) IsMemoryOrStore

-- if the text is understood it defines a table
abbrev pub IsMaker : List ℕ → Result Compiled CompileError → Type 0
IsMaker text (Ok c) = IsDefinition text c
IsMaker text (Err e) = Unit {0}

-- in any database the text makes a table of this name, or is refused
pub record IsMakerOf (text name : List ℕ) : Type 0 where
  pub table : Table
  pub defined : table_defined_by text ≡ Ok table
  pub named : table.name ≡ name
  pub makes : (schema : Schema) → IsMaker text (understood schema text)

-- each of the names was free, and what was taken is
pub record TookNames (names : List (List ℕ)) (old new : Schema) : Type 0 where
  pub free : AllByRecursion (λ name. is_used old name ≡ false) names
  pub kept : (name : List ℕ) → is_used old name ≡ true → is_used new name ≡ true

-- A step of the making in any database: it answers a value only if each of the names was free.
abbrev pub Takes : {X : Type 0} → State → State → Result X TableFault → List (List ℕ) → Type 0
Takes old new result names = HasCleanDisk new → IsTrue old.in_transaction
    → MatchResult result (λ _. TookNames names old.now.schema new.now.schema) IsNotNewerSchema

-- all seven, if meta has some rows and the others have none
pub record HasOnlyMeta (m : Map (List ℕ) ℕ) (db : Database) : Type 0 where
  pub schema : db.schema ≡ pid_schema
  pub sound : IsDatabase db
  pub meta : RowsAre meta_row m (db.trees tables.meta.tree)
  pub accounts : db.trees tables.account.tree ≡ []
  pub items : db.trees tables.item.tree ≡ []
  pub submissions : db.trees tables.submission.tree ≡ []
  pub remarks : db.trees tables.remark.tree ≡ []
  pub receipts : db.trees tables.receipt.tree ≡ []
  pub sinces : db.trees tables.item_since.tree ≡ []

-- one label more
abbrev pub with_label : List ℕ → ℕ → Map (List ℕ) ℕ → Map (List ℕ) ℕ
with_label label value m k = if bytes_eq k label then Some value else m k
