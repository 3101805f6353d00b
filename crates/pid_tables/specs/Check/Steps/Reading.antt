-- What calls in a transaction say of the rows that the transaction shows.
use Rattle.std.specs.Prelude.{◌≡◌, ◌++◌, ◌∷◌, [], List, Result, MatchResult, IfErr, OnOk}
use Rattle.sqlite.specs.Effect.{Database}
use Rattle.sqlite.specs.Order.{Row}
use Rattle.sqlite.specs.State.{State, HasCleanDisk}
use Rattle.pid_tables.specs.declared.rows.schema_version.Version.{Version}
use Rattle.pid_tables.specs.declared.rows.fault.TableFault.{TableFault}
use Rattle.pid_tables.specs.declared.rows.fault.TableFault.TheVariants.{Memory, Store, NewerSchema}
use Rattle.pid_tables.specs.declared.rows.fault.TableFault.TheVariants.{Damaged}
use Rattle.pid_tables.specs.Rows.Faults.{IsMemoryOrStore}
use Rattle.pid_tables.specs.declared.check.schema.Table.{Table}
use Rattle.pid_tables.specs.Check.Queries.{query_of}
use Rattle.pid_tables.specs.Check.Shapes.{CanBeAsked, ShowsRows}
use Rattle.pid_tables.specs.Check.Checking.{ShowsDamage}

-- If the transaction sees a database of which `Has` holds: a value says `Says` of it, and the
-- transaction still sees it; a fault says `Fails`.
abbrev pub JudgesRows : {X : Type 0} → State → State → Result X TableFault → (Database → Type 0)
    → (Database → X → Type 0) → (Database → TableFault → Type 0) → Type 0
JudgesRows old new result Has Says Fails = HasCleanDisk new → (d : Database) → old.now ≡ d → Has d
    → MatchResult result (λ x. Says d x × (new.now ≡ d)) (Fails d)

-- what is kept of the rows that the query of a table answers, if it can be asked
abbrev pub KeepsTable : {X : Type 0} → State → State → Result X TableFault → Table
    → (List Row → X → Type 0) → Type 0
KeepsTable old new result table Says = JudgesRows old new result
    (λ d. CanBeAsked d.schema (query_of table))
    (λ d x. (rows : List Row) × ShowsRows d (query_of table) rows × Says rows x)
    (λ d. IsMemoryOrStore)

-- the tables of the schema are not a registry's, or nothing is said of them
abbrev pub TellsDamage : Version → Database → TableFault → Type 0
TellsDamage version d Memory = Unit {0}
TellsDamage version d Store = Unit {0}
TellsDamage version d (NewerSchema n) = ⊥
TellsDamage version d Damaged = ShowsDamage version d

-- One row more: what was so of the rows before is then so of them and this one. A fault is
-- that of the memory or of the store.
pub record TakesRow {X : Type 0} (result : Result X TableFault) (Was Is : List Row → Type 0)
    (row : Row) : Type 0 where
  pub added : (rows : List Row) → Was rows → OnOk result (Is (rows ++ row ∷ []))
  pub only_store : IfErr result IsMemoryOrStore
