-- Steps of Clauses: what private clauses say of one statement, and of calls in a transaction.
use Rattle.std.specs.Prelude.{◌≡◌, ℕ, List, Result, Vec, Ok, Some, IsSome, OnOk, IfOk, IfErr}
use Rattle.std.specs.Prelude.{IsTrue, true}
use Rattle.std.specs.declared.alloc.Global.{Global}
use Rattle.sqlite.specs.Given.{IsPlain}
use Rattle.sqlite.specs.State.{State}
use Rattle.sqlite.specs.Listing.{understood}
use Rattle.sqlite.specs.Order.{Row}
use Rattle.sqlite.specs.Schema.{Schema}
use Rattle.pid_tables.specs.Rows.Steps.Batches.{Batches}
use Rattle.pid_moderation.specs.Views.{Views}
use Rattle.pid_tables.specs.declared.rows.fault.TableFault.{TableFault}
use Rattle.pid_tables.specs.Rows.Faults.{IsMemoryOrStore, IsNotNewerSchema}
use Rattle.pid_tables.specs.Rows.LabelRows.{IsDamageOf, ShowsNumber, ShowsNoNumber}
use Rattle.pid_tables.specs.Rows.Shows.{Counts, counts_of, labels_of}
use Rattle.pid_tables.specs.Rows.Steps.Shows.{meta_of}
use Rattle.pid_tables.specs.Rows.Steps.Turns.{Turn, changing}
use Rattle.pid_tables.specs.Rows.Steps.Queries.{IsQuery, IsWriteAs}
use Rattle.sqlite.specs.State as states
use Rattle.pid_tables.specs.Rows.Steps.Turns as turns
use Rattle.pid_tables.specs.Rows.Steps.Within as within
use Rattle.pid_tables.specs.Rows.Clauses.{Executes, HasCleanDisk, IsCaused, OnlyReads, Tells}
use Rattle.pid_tables.specs.Rows.Clauses.{is_open, seen}
use Rattle.pid_tables.specs.declared.rows.schema_version.Version.TheVariants.{One}

module _ {S : Type 0} (state : S → State) where
  abbrev pub KeepsCommitted : S → Views → Type 0
  KeepsCommitted conn v = within.KeepsCommitted (state conn) v

  abbrev pub Within : S → Counts → Views → Views → Type 0
  Within conn c held now = within.Within c (state conn) held now

  abbrev pub Written : S → Counts → Views → Views → Type 0
  Written conn c held now = within.Written c (state conn) held now

  abbrev pub Shown : List ℕ → Row → S → S → List Row → Type 0
  Shown sql params old new rows = states.Shown sql params (state old) (state new) rows

  -- a query with these parameters showed these rows in a transaction of its own
  abbrev pub ShowsApart : List ℕ → Row → S → List Row → Type 0
  ShowsApart sql params old rows = (mid : S) × states.Shown sql params
      (record (state old) { in_transaction = true }) (state mid) rows

  -- A statement that writes, with these parameters, inside a transaction.
  pub record RunsWrite {X : Type 0} (sql : List ℕ) (params : Row) (old new : S)
      (result : Result X TableFault) : Type 0 where
    -- if it answers a value, it was carried out
    pub ran : HasCleanDisk state new → IsTrue (state old).in_transaction
        → OnOk result ((count : ℕ) × Executes state sql params old new (Ok count))
    -- a text that writes in the schema is not damage
    pub only_store : HasCleanDisk state new → (schema : Schema)
        → (IsTrue (is_open state old) → (seen state old).schema ≡ schema)
        → IsWriteAs sql (understood schema sql) → IfErr result IsMemoryOrStore

  -- Why a query with these parameters is answered with a fault.
  pub record FaultsQuery {X : Type 0} (sql : List ℕ) (params : Row) (old new : S)
      (result : Result X TableFault) : Type 0 where
    -- a text that is understood in the schema is not damage
    pub only_store : HasCleanDisk state new → (schema : Schema) → (seen state old).schema ≡ schema
        → IsPlain (understood schema sql) → IfErr result IsMemoryOrStore
    -- a query on its tables faults for a cause
    pub caused : HasCleanDisk state new → (schema : Schema)
        → (IsTrue (is_open state old) → (seen state old).schema ≡ schema)
        → IsQuery schema sql params → IfErr result (IsCaused state old new)
    -- whatever it is, it reports no later schema
    pub never : IfErr result IsNotNewerSchema

  -- The number under a label, which the views have if both schemas have the label.
  pub record ReadsLabel (label : List ℕ) (old new : S) (result : Result ℕ TableFault)
      : Type 0 where
    pub rests : OnlyReads state old new
    pub found : ((c : Counts) → IsSome (labels_of One c 0 label))
        → Tells state old new result (λ v n. Some n ≡ meta_of (counts_of v) v.revision label)
    pub shown : HasCleanDisk state new → IfOk result (ShowsNumber (seen state old) label)
    pub refused : HasCleanDisk state new
        → IfErr result (IsDamageOf (ShowsNoNumber (seen state old) label))
    pub never : IfErr result IsNotNewerSchema

module _ {S : Type 0} (batch : Batches S) where
  -- One statement that writes, and the transaction goes on.
  pub record WritesOne {X : Type 0} (sql : List ℕ) (params : Row) (old new : S)
      (result : Result X TableFault) : Type 0 where
    -- the connection is the same
    pub same_reference : batch.reference new ≡ batch.reference old
    -- nothing is committed
    pub goes : turns.GoesOn (batch.state old) (batch.state new) result
    pub runs : RunsWrite batch.state sql params old new result
    -- whatever it is, it reports no later schema
    pub never : IfErr result IsNotNewerSchema

  -- One query, and the transaction goes on.
  pub record ReadsInside (sql : List ℕ) (params : Row) (old new : S)
      (result : Result (Vec Row Global) TableFault) : Type 0 where
    pub same_reference : batch.reference new ≡ batch.reference old
    pub goes : turns.GoesOn (batch.state old) (batch.state new) result
    -- the rows are those of the query
    pub shown : HasCleanDisk batch.state new
        → IfOk result (λ rows. Shown batch.state sql params old new rows.items)
    pub faults : FaultsQuery batch.state sql params old new result

  -- A call in a transaction, which goes on, makes this turn of the views.
  pub record LeadsTo {X : Type 0} (old new : S) (result : Result X TableFault)
      (turn : Turn) : Type 0 where
    pub same_reference : batch.reference new ≡ batch.reference old
    pub goes : turns.GoesOn (batch.state old) (batch.state new) result
    pub shows : turns.LeadsTo (batch.state old) (batch.state new) result turn

  -- the same, if the counts stay as they are
  abbrev pub ChangesTo : {X : Type 0} → S → S → Result X TableFault
      → (Views → Type 0) → (Views → Views) → Type 0
  ChangesTo old new result IsFor next = LeadsTo old new result (changing IsFor next)
