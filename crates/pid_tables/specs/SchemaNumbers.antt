-- What is answered as the number of the schema.
use Rattle.std.specs.Prelude.{◌≡◌, ℕ, codes, Result, IfErr, IfOk, IsTrue, MatchResult, OnOk}
use Rattle.sqlite.specs.State.{State, HasCleanDisk}
use Rattle.pid_moderation.specs.Views.{Views}
use Rattle.pid_tables.specs.declared.rows.fault.TableFault.{TableFault}
use Rattle.pid_tables.specs.declared.rows.schema_version.Version.{Version}
use Rattle.pid_tables.specs.declared.rows.schema_version.Version.TheVariants.{One}
use Rattle.pid_tables.specs.Rows.Faults.{IsMemoryOrStore, IsNotNewerSchema}
use Rattle.pid_tables.specs.Rows.LabelRows.{ExplainsNumber, HasLabel}
use Rattle.pid_tables.specs.Rows.LabelRows.{IsDamageOf, ShowsNoNumber, ShowsNumber}
use Rattle.pid_tables.specs.Rows.Leaves.{RestsIn}
use Rattle.pid_tables.specs.Check.Shapes.{HasNoTable, HasSomeTable, IsMadeFirst}

-- The number that the labels have, or 0 if there is no table.
pub record TellsSchema (old new : State) (result : Result ℕ TableFault) : Type 0 where
  -- Tables of schema 1 that show views have their number.
  pub earlier : HasCleanDisk new → (v : Views) → RestsIn One old v
      → MatchResult result (λ n. n ≡ 1) IsMemoryOrStore
  pub none : HasCleanDisk new → HasNoTable old.now.schema
      → MatchResult result (λ n. n ≡ 0) IsMemoryOrStore
  -- If some table is there, whatever else is.
  pub shown : HasCleanDisk new → HasSomeTable old.now.schema
      → MatchResult result (ShowsNumber old.now (codes "schema"))
      (IsDamageOf (ShowsNoNumber old.now (codes "schema")))
  -- The same by what storage has, if the tables of a schema were made first.
  pub labelled : HasCleanDisk new → (schema : Version) → IsMadeFirst schema old.now.schema
      → IfOk result (HasLabel old.now.trees (codes "schema"))
  pub refused : HasCleanDisk new → (schema : Version) → IsMadeFirst schema old.now.schema
      → IfErr result (ExplainsNumber old.now.trees (codes "schema"))
  -- A number is answered by a connection that was open.
  pub was_open : HasCleanDisk new → OnOk result (IsTrue old.is_open)
  -- Whatever number the labels have, no fault names it.
  pub never : IfErr result IsNotNewerSchema
