-- Texts that are queries on the tables of a schema, or writes.
use Rattle.std.specs.Prelude.{◌≡◌, ℕ, ◌≤◌, true, false, List, [], length, None, Result, Ok, Err}
use Rattle.sqlite.specs.Order.{Row}
use Rattle.sqlite.specs.Tree.{Trees}
use Rattle.sqlite.specs.Listing.{understood, reads_listing}
use Rattle.sqlite.specs.Command.{Command}
use Rattle.sqlite.specs.Compile.{table_defined_by}
use Rattle.sqlite.specs.State.{text_of}
use Rattle.sqlite.specs.Table.{Table}
use Rattle.sqlite.specs.Schema.{Schema}
use Rattle.sqlite.specs.Command.TheVariants.{Select, Insert, Update, Delete, CreateTable}
use Rattle.sqlite_resolve.specs.declared.compiled.Compiled.{Compiled}
use Rattle.sqlite_resolve.specs.declared.error.CompileError.{CompileError}
use Rattle.sqlite_schema.specs.Program.{lets_of}
use Rattle.sqlite_sql.specs.Program.{ProgramOverflows}
use Rattle.sqlite_typing.specs.Types.{accepts_program}

-- a query whose types accept the parameters, and whose sums never overflow
abbrev pub IsSafeSelect : Schema → Row → Command → Type 0
IsSafeSelect schema params (Select q names) =
    (accepts_program schema (lets_of q) q.body params ≡ true)
    × ((db : Trees) → ProgramOverflows db params [] (lets_of q) q.body → ⊥)
IsSafeSelect schema params _ = ⊥

-- one statement alone, with as many parameters as are given, without RETURNING, that does not read
-- the time
pub record IsOneStatement (sql : List ℕ) (params : Row) (c : Compiled) : Type 0 where
  pub whole : length sql ≤ c.tail
  pub given : length params ≡ length c.names
  pub bare : c.returning ≡ None
  pub timeless : c.formats ≡ []

abbrev pub IsQueryAs : Schema → List ℕ → Row → Result Compiled CompileError → Type 0
IsQueryAs schema sql params (Ok c) = IsOneStatement sql params c
    × IsSafeSelect schema params c.command
IsQueryAs schema sql params (Err e) = ⊥

-- the text is one query on the tables, and nothing about it is refused
pub record IsQuery (schema : Schema) (sql : List ℕ) (params : Row) : Type 0 where
  pub known : IsQueryAs schema sql params (understood schema sql)
  pub unlisted : reads_listing schema sql ≡ false

-- INSERT, UPDATE and DELETE, and CREATE TABLE of a text that defines a table
abbrev pub IsWrite : List ℕ → Command → Type 0
IsWrite text (Insert at from) = Unit {0}
IsWrite text (Update at q) = Unit {0}
IsWrite text (Delete at q) = Unit {0}
IsWrite text CreateTable = (table : Table) × (table_defined_by text ≡ Ok table)
IsWrite text _ = ⊥

-- the text writes rows or makes a table, without RETURNING
abbrev pub IsWriteAs : List ℕ → Result Compiled CompileError → Type 0
IsWriteAs sql (Ok c) = (c.returning ≡ None) × IsWrite (text_of sql c) c.command
IsWriteAs sql (Err e) = ⊥
