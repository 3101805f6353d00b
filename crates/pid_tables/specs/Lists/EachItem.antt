-- How a walk ends that hands items to a sink, each with its place among them, counted from 1.
use Rattle.std.specs.Prelude.{◌≡◌, ℕ, ◌+◌, List, [], ◌∷◌, ◌++◌, Result, Ok, Err, reverse}
use Rattle.pid_reader.specs.Numbered.{Numbered}
use Rattle.pid_reader.specs.Sinks.{Took}
use Rattle.sqlite.specs.State.{State}
use Rattle.pid_moderation.specs.Items.{Items}
use Rattle.pid_tables.specs.Rows.Causes.{IsCaused}
use Rattle.pid_tables.specs.declared.lists.walk.EachEnd.{EachEnd}
use Rattle.pid_tables.specs.declared.lists.walk.EachEnd.TheVariants.{Tables, Fault}

-- items with their places, which count on from this one
abbrev pub placed_from : ℕ → Items → List Numbered
placed_from place [] = []
placed_from place (item ∷ items) = (place, item) ∷ placed_from (place + 1) items

-- why a walk ended: the sink faulted, or the tables did and had cause to
abbrev pub IsCausedEnd : {F : Type 0} → State → State → EachEnd F → Type 0
IsCausedEnd old new (Tables fault) = IsCaused old new fault
IsCausedEnd old new (Fault f) = Unit {0}

-- what a sink takes, and where it faults
module _ {S F : Type 0} (takes : S → Numbered → S → Type 0)
    (faults : S → Numbered → F → S → Type 0) where
  -- it took the first of the items, in their order, and was handed no more
  pub record TookFirst (old : S) (items : List Numbered) (new : S) : Type 0 where
    pub front : List Numbered
    pub rest : List Numbered
    pub parts : items ≡ front ++ rest
    pub took : Took takes old (reverse front) new

  -- it took the items before one, in their order, and had the fault at that one
  pub record FaultedAtOne (old : S) (items : List Numbered) (fault : F) (new : S) : Type 0 where
    pub front : List Numbered
    pub item : Numbered
    pub rest : List Numbered
    pub parts : items ≡ front ++ item ∷ rest
    pub between : S
    pub took : Took takes old (reverse front) between
    pub faulted : faults between item fault new

  -- the walk over these items: the sink took all, or faulted at one; or the tables faulted
  abbrev pub Walks : {X : Type 0} → Result X (EachEnd F) → List Numbered → S → S → Type 0
  Walks (Ok x) items old new = Took takes old (reverse items) new
  Walks (Err (Fault f)) items old new = FaultedAtOne old items f new
  Walks (Err (Tables t)) items old new = TookFirst old items new

  -- the walk over some items
  pub record WalksSome {X : Type 0} (result : Result X (EachEnd F)) (old new : S) : Type 0 where
    pub items : List Numbered
    pub walked : Walks result items old new
