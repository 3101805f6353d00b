-- The labels of meta, whatever numbers they have.
use Rattle.std.specs.Prelude.{◌≡◌, ◌⊎◌, ℕ, ◌<◌, ◌^◌, List, [], ◌∷◌, slice_get, Some, Ok, codes}
use Rattle.sqlite.specs.Effect.{Database, Reads}
use Rattle.sqlite.specs.Listing.{understood, reads_listing, IsSourceOf}
use Rattle.sqlite.specs.Order.{Row, column}
use Rattle.sqlite.specs.Tree.{Trees}
use Rattle.sqlite.specs.declared.types.Value.{Value}
use Rattle.sqlite.specs.declared.types.Value.TheVariants.{Text}
use Rattle.sqlite_resolve.specs.declared.compiled.Compiled.{Compiled}
use Rattle.sqlite_rules.specs.Lists.{Has}
use Rattle.pid_tables.specs.declared.rows.fault.TableFault.{TableFault}
use Rattle.pid_tables.specs.declared.rows.fault.TableFault.TheVariants.{Memory, Store, NewerSchema}
use Rattle.pid_tables.specs.declared.rows.fault.TableFault.TheVariants.{Damaged}
use Rattle.pid_tables.specs.Rows.Schema.{meta}
use Rattle.pid_tables.specs.Rows.TableRows.{number}

-- a number of 32 bits
abbrev pub IsNumber : Value → Type 0
IsNumber value = (n : ℕ) × (n < 2 ^ 32) × (value ≡ number n)

-- the query of the value of a label
abbrev pub value_text : List ℕ
value_text = codes "SELECT value FROM meta WHERE label = ?1"

-- whatever the schema: the query of the value of this label answers these rows
pub record ShowsValues (db : Database) (label : List ℕ) (rows : List Row) : Type 0 where
  pub query : Compiled
  pub is : understood db.schema value_text ≡ Ok query
  pub source : Database
  pub from : IsSourceOf (reads_listing db.schema value_text) db source
  pub answer : Reads query.command source (Text label ∷ []) rows

-- the first row that it answers has this number
abbrev pub ShowsNumber : Database → List ℕ → ℕ → Type 0
ShowsNumber db label n = (rows : List Row) × ShowsValues db label rows × (first : Row)
    × (slice_get rows 0 ≡ Some first) × (column first 0 ≡ number n)

-- it can't be asked, or it answers no row, or a first one with no number of 32 bits
abbrev pub ShowsNoNumber : Database → List ℕ → Type 0
ShowsNoNumber db label =
    ((query : Compiled) → ¬ (understood db.schema value_text ≡ Ok query))
    ⊎ ((rows : List Row) × ShowsValues db label rows
    × ((first : Row) → slice_get rows 0 ≡ Some first → ¬ (IsNumber (column first 0))))

-- some row of meta has the label, with this number
abbrev pub HasLabel : Trees → List ℕ → ℕ → Type 0
HasLabel db label n = (r : Row) × Has (db meta.tree) r × (column r 1 ≡ Text label)
    × (column r 2 ≡ number n)

-- no row of meta has the label, or one has it with a value that is no number of 32 bits
abbrev pub LacksNumber : Trees → List ℕ → Type 0
LacksNumber db label = ((r : Row) → Has (db meta.tree) r → ¬ (column r 1 ≡ Text label))
    ⊎ ((r : Row) × Has (db meta.tree) r × (column r 1 ≡ Text label) × ¬ (IsNumber (column r 2)))

-- there was no memory, or the store failed or refused; else it is Damaged, and this is so
abbrev pub IsDamageOf : Type 0 → TableFault → Type 0
IsDamageOf This Memory = Unit {0}
IsDamageOf This Store = Unit {0}
IsDamageOf This (NewerSchema n) = ⊥
IsDamageOf This Damaged = This

-- why the number of a label is not answered: it is Damaged exactly if there is none
abbrev pub ExplainsNumber : Trees → List ℕ → TableFault → Type 0
ExplainsNumber db label fault = IsDamageOf (LacksNumber db label) fault
