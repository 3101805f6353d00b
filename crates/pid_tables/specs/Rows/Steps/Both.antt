-- Two statements that write, one after the other.
use Rattle.std.specs.Prelude.{◌≡◌, ℕ, List, Result, Ok, MatchResult, IsTrue}
use Rattle.sqlite.specs.State.{State}
use Rattle.sqlite.specs.Listing.{understood}
use Rattle.sqlite.specs.Order.{Row}
use Rattle.sqlite.specs.Schema.{Schema}
use Rattle.pid_tables.specs.Rows.Steps.Batches.{Batches}
use Rattle.pid_tables.specs.declared.rows.fault.TableFault.{TableFault}
use Rattle.pid_tables.specs.Rows.Clauses.{Executes, HasCleanDisk, seen}
use Rattle.pid_tables.specs.Rows.Faults.{IsMemoryOrStore}
use Rattle.pid_tables.specs.Rows.Steps.Queries.{IsWriteAs}
use Rattle.pid_tables.specs.Rows.Steps.Turns.{GoesOn}

-- the texts, each with its parameters
pub record Both : Type 0 where
  pub first : List ℕ
  pub named : Row
  pub second : List ℕ
  pub numbered : Row

module _ {S : Type 0} (state : S → State) where
  -- a statement was carried out
  abbrev pub Ran : List ℕ → Row → S → S → Type 0
  Ran sql params old new = (count : ℕ) × Executes state sql params old new (Ok count)

  -- Each was carried out, if they are texts that write and the first leaves the schema as it was; a
  -- fault is that of the memory or of the store.
  abbrev pub RunsBoth : {X : Type 0} → Both → S → S → Result X TableFault → Type 0
  RunsBoth both old new result =
      HasCleanDisk state new → IsTrue (state old).in_transaction
      → (schema : Schema) → (seen state old).schema ≡ schema
      → IsWriteAs both.first (understood schema both.first)
      → ((mid : S) → Ran both.first both.named old mid → (seen state mid).schema ≡ schema)
      → IsWriteAs both.second (understood schema both.second)
      → MatchResult result (λ _. (mid : S) × Ran both.first both.named old mid
      × Ran both.second both.numbered mid new) IsMemoryOrStore

module _ {S : Type 0} (batch : Batches S) where
  -- both in turn, and the transaction goes on
  pub record WritesBoth {X : Type 0} (both : Both) (old new : S)
      (result : Result X TableFault) : Type 0 where
    pub same_reference : batch.reference new ≡ batch.reference old
    pub goes : GoesOn (batch.state old) (batch.state new) result
    pub runs : RunsBoth batch.state both old new result
