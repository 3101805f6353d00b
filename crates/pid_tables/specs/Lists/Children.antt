-- The children of a path, as a list of the tables has them.
use Rattle.std.specs.Prelude.{◌≡◌, ℕ, List, Option, map}
use Rattle.pid_moderation.specs.declared.lists.Item.{Item}
use Rattle.pid_moderation.specs.Children.{children_of}
use Rattle.pid_moderation.specs.ItemPairs.{pair_of}
use Rattle.pid_moderation.specs.Views.{Views}
use Rattle.pid_moderation.specs.WellMade.{AllItems}

-- they are those of the views, below a path or at the top, if the views' paths are paths and their
-- names are names, as those of every history are
abbrev pub AreChildren : Option (List ℕ) → Views → List Item → Type 0
AreChildren above v items = AllItems v.items → map pair_of items ≡ children_of above v.items
