-- A later schema is told as such, whatever the schema.
use Rattle.sqlite.specs.Effect.{Database}
use Rattle.pid_tables.specs.declared.rows.fault.TableFault.{TableFault}
use Rattle.pid_tables.specs.declared.rows.fault.TableFault.TheVariants.{Memory, Store, NewerSchema, Damaged}
use Rattle.pid_tables.specs.Rows.Faults.{IsMemoryOrStore, IsNotNewerSchema}
use Rattle.pid_tables.specs.Check.Steps.Lacking.{ExplainsLater}

pub only_store_never : (e : TableFault) → IsMemoryOrStore e → IsNotNewerSchema e
only_store_never Memory h = tt
only_store_never Store h = tt
only_store_never (NewerSchema n) h = h
only_store_never Damaged h = tt

pub only_store_later : (db : Database) (e : TableFault) → IsMemoryOrStore e → ExplainsLater db e
only_store_later db Memory h = tt
only_store_later db Store h = tt
only_store_later db (NewerSchema n) h = absurd h
only_store_later db Damaged h = absurd h
