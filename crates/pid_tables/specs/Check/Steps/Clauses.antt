-- What clauses say of a connection that the check only reads: the definitions of Reading, of what
-- the connections show.
use Rattle.std.specs.Prelude.{◌≡◌, List, Result, IfOk, IfErr}
use Rattle.sqlite.specs.Effect.{Database}
use Rattle.sqlite.specs.State.{State}
use Rattle.sqlite.specs.Order.{Row}
use Rattle.pid_tables.specs.declared.rows.fault.TableFault.{TableFault}
use Rattle.pid_tables.specs.declared.check.schema.Table.{Table}
use Rattle.pid_tables.specs.Rows.Clauses.{HasCleanDisk, OnlyReads, seen}
use Rattle.pid_tables.specs.Rows.Faults.{IsMemoryOrStore}
use Rattle.pid_tables.specs.Check.Steps.Reading as reading

module _ {S : Type 0} (state : S → State) where
  -- a read of rows of which it is known what they are among
  pub record JudgesRows {X : Type 0} (old new : S) (result : Result X TableFault)
      (Has : Database → Type 0) (Says : Database → X → Type 0)
      (Fails : Database → TableFault → Type 0) : Type 0 where
    pub rests : OnlyReads state old new
    pub told : reading.JudgesRows (state old) (state new) result Has Says Fails

  -- a read of the rows of one table
  pub record KeepsTable {X : Type 0} (old new : S) (result : Result X TableFault)
      (table : Table) (Says : List Row → X → Type 0) : Type 0 where
    pub rests : OnlyReads state old new
    pub keeps : reading.KeepsTable (state old) (state new) result table Says

  -- a question about the schema, whose answer is so of the database
  pub record Asks {X : Type 0} (old new : S) (result : Result X TableFault)
      (Says : Database → X → Type 0) : Type 0 where
    pub rests : OnlyReads state old new
    -- what it sees stays the same
    pub same : HasCleanDisk state new → IfOk result (λ x. seen state new ≡ seen state old)
    pub asked : HasCleanDisk state new → IfOk result (Says (seen state old))
    -- a fault says nothing of the tables
    pub only_store : IfErr result IsMemoryOrStore
