-- Whether a database has some table of a registry: a choice of this project.
use Rattle.std.specs.Prelude.{◌≡◌, ◌↔◌, Bool, Result, IfOk, IfErr, OnOk, IsTrue}
use Rattle.sqlite.specs.State.{State}
use Rattle.pid_tables.specs.Rows.Clauses.{HasCleanDisk, is_open, seen}
use Rattle.pid_tables.specs.declared.rows.fault.TableFault.{TableFault}
use Rattle.pid_tables.specs.Rows.Faults.{IsMemoryOrStore}
use Rattle.pid_tables.specs.Check.Shapes.{HasSomeTable}

module _ {S : Type 0} (state : S → State) where
  -- What is answered to the question whether some of the seven tables is there.
  pub record AsksTables (old new : S) (result : Result Bool TableFault) : Type 0 where
    -- a value is so of the database,
    pub asked : HasCleanDisk state new
        → IfOk result (λ some. IsTrue some ↔ HasSomeTable (seen state old).schema)
    -- and then the connection was open,
    pub was_open : HasCleanDisk state new → OnOk result (IsTrue (is_open state old))
    -- and sees the same as before
    pub same : HasCleanDisk state new → IfOk result (λ some. seen state new ≡ seen state old)
    -- a fault says nothing of the tables
    pub only_store : IfErr result IsMemoryOrStore
