-- Items by their places.
use Rattle.std.specs.Prelude.{ℕ, Bool, List, Option, Some, None, is_none, filter}
use Rattle.pid_ident.specs.PathReading.{parent_text}
use Rattle.pid_moderation.specs.Items.{Items, is_parent}

-- the path with this text is directly below that one; without one it is at the top, as vendors and
-- classes are
abbrev pub stands_below : Option (List ℕ) → List ℕ → Bool
stands_below None text = is_none (parent_text text)
stands_below (Some above) text = is_parent above (parent_text text)

-- the items there, in their order
abbrev pub children_of : Option (List ℕ) → Items → Items
children_of above items = filter (λ e. stands_below above e.0) items
