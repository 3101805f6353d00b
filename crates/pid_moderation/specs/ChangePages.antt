-- Pages of the items that were added or renamed.
use Rattle.std.specs.Prelude.{ℕ, ◌<◌, ◌^◌, Bool, ◌&&◌, nat_lt, List, [], map, filter, take, Option}
use Rattle.std.specs.Prelude.{Some, None}
use Rattle.std.specs.Ordering.{is_lt}
use Rattle.pid_file.specs.PathTexts.{path_text}
use Rattle.pid_file.specs.Trees.{text_cmp}
use Rattle.pid_file.specs.declared.path.Path.{Path}
use Rattle.pid_moderation.specs.Views.{Views}
use Rattle.pid_moderation.specs.declared.lists.ChangedItem.{ChangedItem}
use Rattle.pid_moderation.specs.declared.lists.Changes.{Changes}

-- an item by the text of its path, with the number of the last change of its name
pub record Changed : Type 0 where
  pub path : List ℕ
  pub name : List ℕ
  pub since : ℕ

-- some items, and the revision at which they are so
pub record ChangePage : Type 0 where
  pub revision : ℕ
  pub items : List Changed

-- the item comes after this text, and the number of its last change is above this one
abbrev pub is_later : ℕ → List ℕ → Views → List ℕ × List ℕ → Bool
is_later since after v item = is_lt (text_cmp after item.0) && nat_lt since (v.since item.0)

-- an item of the views, with its number
abbrev pub numbered_in : Views → List ℕ × List ℕ → Changed
numbered_in v item = record { path = item.0; name = item.1; since = v.since item.0 }

-- all items that are later, in the order of their paths
abbrev pub changed_after : ℕ → List ℕ → Views → List Changed
changed_after since after v = map (numbered_in v) (filter (is_later since after v) v.items)

-- the first of them, at most so many
abbrev pub changes_in : ℕ → ℕ → List ℕ → Views → ChangePage
changes_in most since after v = record {
  revision = v.revision;
  items = take most
      (changed_after since after v);
}

-- the text after which a page begins: that of a path, or the empty one, which comes before every
-- path
abbrev pub start_text : Option Path → List ℕ
start_text None = []
start_text (Some path) = path_text path

-- SQLite holds the number of each change
abbrev pub AreHeld : Views → Type 0
AreHeld v = (path : List ℕ) → v.since path < 2 ^ 63

-- the item of a value of the code
abbrev pub changed_of : ChangedItem → Changed
changed_of item = record { path = path_text item.path; name = item.name; since = item.since }

-- the page of a value of the code
abbrev pub page_of : Changes → ChangePage
page_of changes = record { revision = changes.revision; items = map changed_of changes.items.items }
