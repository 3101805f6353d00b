-- Which tables of a schema a database has, and which rows they show: choices of this project.
use Rattle.std.specs.Prelude.{◌≡◌, ◌++◌, ℕ, List, [], ◌∷◌, Option, Some, None, Ok}
use Rattle.sqlite.specs.Order.{Row}
use Rattle.sqlite.specs.Schema.{Schema}
use Rattle.sqlite.specs.Table.{Table as Stored}
use Rattle.sqlite.specs.Effect.{Database, Reads}
use Rattle.sqlite.specs.Listing.{understood, reads_listing, IsSourceOf}
use Rattle.sqlite_resolve.specs.declared.compiled.Compiled.{Compiled}
use Rattle.sqlite_rules.specs.Lists.{Has}
use Rattle.pid_tables.specs.declared.rows.schema_version.Version.{Version}
use Rattle.pid_tables.specs.declared.rows.schema_version.Version.TheVariants.{One, Two}
use Rattle.pid_tables.specs.Rows.Schema.{schema_of}
use Rattle.pid_tables.specs.declared.check.schema.Table.TheVariants.{Meta, Account, Item}
use Rattle.pid_tables.specs.declared.check.schema.Table.TheVariants.{Submission, Remark, Receipt}
use Rattle.pid_tables.specs.declared.check.schema.Table.TheVariants.{Since}
use Rattle.pid_tables.specs.Check.Conditions.{Rows, IsNewer}
use Rattle.pid_tables.specs.Check.Queries.{query_of, any_since}

-- the queries of the tables of a schema
abbrev pub table_texts : Version → List (List ℕ)
table_texts One = query_of Meta ∷ query_of Account ∷ query_of Item ∷ query_of Submission
    ∷ query_of Remark ∷ query_of Receipt ∷ []
table_texts Two = query_of Meta ∷ query_of Account ∷ query_of Item ∷ query_of Submission
    ∷ query_of Remark ∷ query_of Receipt ∷ query_of Since ∷ []

-- the text can be prepared: it is understood as a statement under the schema
abbrev pub CanBeAsked : Schema → List ℕ → Type 0
CanBeAsked schema text = (c : Compiled) × (understood schema text ≡ Ok c)

-- each of the six tables that both schemas have can be asked for
abbrev pub HasEachTable : Schema → Type 0
HasEachTable schema = (text : List ℕ) → Has (table_texts One) text → CanBeAsked schema text

-- some of the seven can
abbrev pub HasSomeTable : Schema → Type 0
HasSomeTable schema = (text : List ℕ) × Has (table_texts Two) text × CanBeAsked schema text

abbrev pub HasNoTable : Schema → Type 0
HasNoTable schema = ¬ (HasSomeTable schema)

-- a table, or a view, has the name item_since, whatever its columns
abbrev pub HasSinceTable : Schema → Type 0
HasSinceTable schema = CanBeAsked schema any_since

-- the tables of a schema are there: with the six, schema 1 has no table item_since, and schema 2
-- has it with its columns
abbrev pub HasTables : Version → Schema → Type 0
HasTables One schema = HasEachTable schema × ¬ (HasSinceTable schema)
HasTables Two schema = HasEachTable schema × HasSinceTable schema
    × CanBeAsked schema (query_of Since)

-- the tables of a schema were made first, in their order; whatever else was made comes after them
abbrev pub IsMadeFirst : Version → Schema → Type 0
IsMadeFirst version schema = (others : List Stored)
    × (schema.tables ≡ (schema_of version).tables ++ others)

-- the query answers these rows
pub record ShowsRows (db : Database) (text : List ℕ) (rows : List Row) : Type 0 where
  pub query : Compiled
  pub is : understood db.schema text ≡ Ok query
  pub source : Database
  pub from : IsSourceOf (reads_listing db.schema text) db source
  pub answer : Reads query.command source [] rows

-- schema 1 has no table item_since to ask for
abbrev pub ShowsSinces : Version → Database → List Row → Type 0
ShowsSinces One db rows = Unit {0}
ShowsSinces Two db rows = ShowsRows db (query_of Since) rows

-- the queries of the tables of a schema answer these rows
pub record ShowsTables (version : Version) (db : Database) (t : Rows) : Type 0 where
  pub meta : ShowsRows db (query_of Meta) t.meta
  pub accounts : ShowsRows db (query_of Account) t.accounts
  pub items : ShowsRows db (query_of Item) t.items
  pub submissions : ShowsRows db (query_of Submission) t.submissions
  pub remarks : ShowsRows db (query_of Remark) t.remarks
  pub receipts : ShowsRows db (query_of Receipt) t.receipts
  pub sinces : ShowsSinces version db t.sinces

-- the labels show a later schema of this number, or none
abbrev pub ShowsLater : Database → Option ℕ → Type 0
ShowsLater db (Some n) = (rows : List Row) × ShowsRows db (query_of Meta) rows × IsNewer n rows
ShowsLater db None = (rows : List Row) × ShowsRows db (query_of Meta) rows
    × ((n : ℕ) → ¬ (IsNewer n rows))
