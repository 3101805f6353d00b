-- What the whole check answers.
use Rattle.std.specs.Prelude.{Option, Some, None}
use Rattle.sqlite.specs.Effect.{Database}
use Rattle.pid_tables.specs.declared.rows.schema_version.Version.{Version}
use Rattle.pid_tables.specs.declared.rows.fault.TableFault.{TableFault}
use Rattle.pid_tables.specs.declared.rows.fault.TableFault.TheVariants.{Memory, Store, NewerSchema}
use Rattle.pid_tables.specs.declared.rows.fault.TableFault.TheVariants.{Damaged}
use Rattle.pid_tables.specs.Check.Conditions.{Rows, rows_in, AreOfRegistry}
use Rattle.pid_tables.specs.Check.Queries.{query_of}
use Rattle.pid_tables.specs.Check.Shapes.{HasTables, HasSomeTable, HasNoTable, CanBeAsked}
use Rattle.pid_tables.specs.Check.Shapes.{ShowsTables, ShowsLater}
use Rattle.pid_tables.specs.declared.check.schema.Table.TheVariants.{Meta}

-- the rows that the tables of a schema show are those of a registry, or are not
abbrev pub ShowsRegistry : Version → Database → Type 0
ShowsRegistry version db = (t : Rows) × ShowsTables version db t × AreOfRegistry version t

abbrev pub ShowsDamage : Version → Database → Type 0
ShowsDamage version db = (t : Rows) × ShowsTables version db t × ¬ (AreOfRegistry version t)

-- A database of which nothing is there is none. One in a schema has its tables, which show
-- a registry, and no later schema.
abbrev pub FindsVersion : Database → Option Version → Type 0
FindsVersion db None = HasNoTable db.schema
FindsVersion db (Some found) = HasTables found db.schema × ShowsRegistry found db
    × ShowsLater db None

-- A later schema is judged before all else. Damaged is answered only if there is some table; and if
-- the tables of a schema are all there, only of rows that are not a registry's.
abbrev pub Explains : Database → TableFault → Type 0
Explains db Memory = Unit {0}
Explains db Store = Unit {0}
Explains db (NewerSchema n) = ShowsLater db (Some n)
Explains db Damaged = HasSomeTable db.schema
    × (CanBeAsked db.schema (query_of Meta) → ShowsLater db None)
    × ((version : Version) → HasTables version db.schema → ShowsDamage version db)

-- The same by what storage has: the tables of a schema are there, and their rows are those of a
-- registry. It speaks of a database whose tables were made first.
pub record IsRegistry (version : Version) (db : Database) : Type 0 where
  pub tables : HasTables version db.schema
  pub rows : AreOfRegistry version (rows_in db.trees)
