-- The moments at which a reader was read.
use Rattle.std.specs.Prelude.{◌≡◌, ℕ, List, ◌++◌, Option, Some, None, All}

-- when it was read: what was still to come, and what the writer had taken
pub record Moment : Type 0 where
  pub to_come : Option (List ℕ)
  pub taken : Option (List ℕ)

-- this holds of each moment of an account that it did not have before; if none is kept nothing
-- is said
abbrev pub AllSince : (Moment → Type 0) → Option (List Moment) → Option (List Moment) → Type 0
AllSince P earlier None = Unit {0}
AllSince P None (Some now) = ⊥
AllSince P (Some earlier) (Some now) = (later : List Moment) × (now ≡ earlier ++ later)
    × All P later
