-- Steps of EachItem.
use Rattle.std.specs.Prelude.{◌≡◌, ℕ, Result, Ok, Err, IfErr}
use Rattle.sqlite.specs.State.{State}
use Rattle.sqlite.specs.Order.{Row}
use Rattle.pid_reader.specs.LookingBack.{Item}
use Rattle.pid_reader.specs.Numbered.{Numbered}
use Rattle.pid_tables.specs.Lists.Clauses.{IsCausedEnd, OverViews}
use Rattle.pid_tables.specs.Lists.EachItem.{Walks, WalksSome, placed_from}
use Rattle.pid_tables.specs.Rows.Causes.{IsReadable}
use Rattle.pid_tables.specs.Rows.Clauses.{OnlyReads}
use Rattle.pid_tables.specs.Rows.Steps.Answers.{item_shown}
use Rattle.pid_tables.specs.Rows.Steps.Unread.{IsDamagedRow, ReadsAsItem}
use Rattle.pid_tables.specs.declared.lists.walk.EachEnd.{EachEnd}
use Rattle.pid_tables.specs.declared.lists.walk.EachEnd.TheVariants.{Tables, Fault}

-- the sink faulted, or a row was not read
abbrev pub IsUnreadEnd : {F : Type 0} → Type 0 → EachEnd F → Type 0
IsUnreadEnd Written (Tables fault) = IsDamagedRow Written fault
IsUnreadEnd Written (Fault f) = Unit {0}

-- one item: the sink took it or faulted at it, or the tables faulted before it came to the sink
abbrev pub TakesOne : {S F X : Type 0} → (S → Numbered → S → Type 0)
    → (S → Numbered → F → S → Type 0) → Result X (EachEnd F) → Numbered → S → S → Type 0
TakesOne takes faults (Ok x) item old new = takes old item new
TakesOne takes faults (Err (Fault f)) item old new = faults old item f new
TakesOne takes faults (Err (Tables t)) item old new = new ≡ old

module _ {K F X : Type 0} (takes : K → Numbered → K → Type 0)
    (faults : K → Numbered → F → K → Type 0) where
  -- the row of an item that is handed to a sink with its place
  pub record HandsRow (row : Row) (place : ℕ) (old new : K) (result : Result X (EachEnd F))
      : Type 0 where
    pub one : (item : Item) → row ≡ item_shown item
        → TakesOne takes faults result (place, item) old new
    pub some : (item : Numbered) × TakesOne takes faults result item old new
    pub unread : IfErr result (IsUnreadEnd (ReadsAsItem row))

  -- all items are handed to a sink
  pub record HandsAll {S : Type 0} (state : S → State) (before after : S) (old new : K)
      (result : Result X (EachEnd F)) : Type 0 where
    pub rests : OnlyReads state before after
    pub told : OverViews state before after
        (λ v. Walks takes faults result (placed_from 1 v.items) old new)
    pub some : WalksSome takes faults result old new
    pub caused : OverViews state before after
        (λ v. IsReadable v → IfErr result (IsCausedEnd state before after))
