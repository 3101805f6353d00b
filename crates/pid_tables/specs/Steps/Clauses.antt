-- Steps of Clauses: what private clauses say of a transaction.
use Rattle.std.specs.Prelude.{◌≡◌, Bool, true, false, Result, OnOk, OnErr, IfOk, IfErr}
use Rattle.std.specs.Prelude.{IsTrue, MatchResult}
use Rattle.pid_moderation.specs.declared.change.Change.{Change}
use Rattle.pid_moderation.specs.Changes.{changed, FitsViews}
use Rattle.pid_moderation.specs.Views.{Views}
use Rattle.pid_tables.specs.declared.rows.fault.TableFault.{TableFault}
use Rattle.pid_tables.specs.Rows.Clauses.{AtRest, HasCleanDisk, OnlyReads, RestsIn, is_open, seen}
use Rattle.pid_tables.specs.Rows.Faults.{IsMemoryOrStore}
use Rattle.pid_tables.specs.Rows.Shows.{Counts, Numbers, Shows, ShowsKeeping}
use Rattle.pid_tables.specs.Rows.Steps.Shows.{ShowsCounting}
use Rattle.pid_tables.specs.Rows.Shows.{numbers_in}
use Rattle.pid_tables.specs.Steps.Fits.{CountsFit}
use Rattle.pid_tables.specs.Bringing.{NamesLatest}
use Rattle.pid_tables.specs.Check.Shapes.{HasNoTable}
use Rattle.std.specs.Prelude.{ℕ, List, Option}
use Rattle.sqlite.specs.State.{State}
use Rattle.sqlite.specs.Table.{Table}
use Rattle.pid_tables.specs.Rows.Steps.Batches.{Batches}
use Rattle.pid_tables.specs.Rows.Steps.Turns.{GoesOn, LeadsTo, changing}
use Rattle.pid_tables.specs.declared.rows.schema_version.Version.{Version}
use Rattle.pid_tables.specs.declared.rows.schema_version.Version.TheVariants.{One}
use Rattle.pid_tables.specs.Steps.Commits as commits
use Rattle.pid_tables.specs.Steps.MakingTables as making
use Rattle.pid_tables.specs.Steps.PutNames as putting
use Rattle.pid_tables.specs.declared.putting.Put.{Put}
use Rattle.pid_reader.specs.LookingBack.{Item}
use Rattle.pid_tables.specs.Steps.Bringing as steps

module _ {S : Type 0} (state : S → State) where
  abbrev pub EndsCommit : {X : Type 0} → S → S → Result X TableFault → Type 0
  EndsCommit old new result = commits.EndsCommit (state old) (state new) result

  abbrev pub PutsName : S → S → Result Put TableFault → ℕ → Item → Type 0
  PutsName old new result n item = putting.PutsName (state old) (state new)
      result n item

  abbrev pub Makes : {X : Type 0} → S → S → Result X TableFault → List Table → List Table
      → Type 0
  Makes old new result before after = making.Makes (state old)
      (state new) result before after

  abbrev pub Takes : {X : Type 0} → S → S → Result X TableFault → List (List ℕ) → Type 0
  Takes old new result names = making.Takes (state old) (state new) result names

  abbrev pub FindsShown : S → S → Result (Option Version) TableFault → Type 0
  FindsShown old new result = steps.FindsShown (state old) (state new) result

  -- Whether there are tables whose labels name schema 2.
  pub record FindsLatest (old new : S) (result : Result Bool TableFault) : Type 0 where
    pub rests : OnlyReads state old new
    pub bare : HasCleanDisk state new → HasNoTable (seen state old).schema
        → IfOk result (λ is. is ≡ false)
    pub shown : HasCleanDisk state new
        → (version : Version) (counts : Counts) (numbers : Numbers) (v : Views)
        → (IsTrue (is_open state old) → ShowsKeeping version counts numbers (seen state old) v)
        → IfOk result (λ is. is ≡ steps.is_latest version)
    pub named : HasCleanDisk state new
        → IfOk result (λ is. is ≡ true → NamesLatest (seen state old))
    pub was_open : HasCleanDisk state new → OnOk result (IsTrue (is_open state old))
    pub only_store : IfErr result IsMemoryOrStore

  -- Tables of schema 1 are moved: they show the same views in schema 2, or in schema 1 still.
  pub record MovesUp {X : Type 0} (old new : S) (result : Result X TableFault) : Type 0 where
    pub moved : (v : Views) → RestsIn state One old v → OnOk result (AtRest state new v)
    pub kept : (v : Views) → RestsIn state One old v → OnErr result (RestsIn state One new v)
    pub only_store : HasCleanDisk state new → (v : Views) → RestsIn state One old v
        → IfErr result IsMemoryOrStore

  -- If the transaction, while it is open, shows views in schema 1, it answers a value only with it
  -- showing the same in schema 2, and a fault only if there is no memory, or if the store failed or
  -- refused.
  abbrev pub Moves : {X : Type 0} → S → S → Result X TableFault → Type 0
  Moves old new result = HasCleanDisk state new → IsTrue (state old).in_transaction
      → (c : Counts) (v : Views)
      → (IsTrue (is_open state old) → ShowsKeeping One c (numbers_in v) (seen state old) v)
      → MatchResult result (λ _. ShowsCounting c (seen state new) v) IsMemoryOrStore

module _ {S : Type 0} (batch : Batches S) where
  -- A call in a transaction, which goes on: it makes the views the next ones, and what it answers
  -- is so of those that the transaction showed.
  pub record TellsWithin {X : Type 0} (old new : S) (result : Result X TableFault)
      (next : Views → Views) (Says : Views → X → Type 0) : Type 0 where
    pub same_reference : batch.reference new ≡ batch.reference old
    pub goes : GoesOn (batch.state old) (batch.state new) result
    pub shows : LeadsTo (batch.state old) (batch.state new) result
        (changing (λ v. Unit {0}) next)
    pub told : HasCleanDisk batch.state new → (c : Counts) (v : Views)
        → ShowsCounting c (seen batch.state old) v → IfOk result (Says v)

  -- a call in a transaction, which goes on: if that shows views to which the change fits, it shows
  -- the changed ones then
  pub record WritesChange {X : Type 0} (old new : S) (result : Result X TableFault)
      (change : Change) : Type 0 where
    pub same_reference : batch.reference new ≡ batch.reference old
    pub goes : GoesOn (batch.state old) (batch.state new) result
    pub shows : HasCleanDisk batch.state new → IsTrue (batch.state old).in_transaction
        → (counts : Counts) (v : Views) → ShowsCounting counts (seen batch.state old) v
        → CountsFit change.effect counts v → FitsViews change v
        → MatchResult result (λ _. Shows (seen batch.state new) (changed change v))
        IsMemoryOrStore
