-- What is answered of a database that lacks a table.
use Rattle.std.specs.Prelude.{Some, None}
use Rattle.sqlite.specs.Effect.{Database}
use Rattle.pid_tables.specs.declared.rows.fault.TableFault.{TableFault}
use Rattle.pid_tables.specs.declared.rows.fault.TableFault.TheVariants.{Memory, Store, NewerSchema}
use Rattle.pid_tables.specs.declared.rows.fault.TableFault.TheVariants.{Damaged}
use Rattle.pid_tables.specs.declared.check.schema.Table.TheVariants.{Meta}
use Rattle.pid_tables.specs.Check.Queries.{query_of}
use Rattle.pid_tables.specs.Check.Shapes.{CanBeAsked, ShowsLater}

-- A later schema is judged before all else: it is Damaged if the labels can't be asked for, or
-- show none.
abbrev pub ExplainsLater : Database → TableFault → Type 0
ExplainsLater db Memory = Unit {0}
ExplainsLater db Store = Unit {0}
ExplainsLater db (NewerSchema n) = ShowsLater db (Some n)
ExplainsLater db Damaged = CanBeAsked db.schema (query_of Meta) → ShowsLater db None
