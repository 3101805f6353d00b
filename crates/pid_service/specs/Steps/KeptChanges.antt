-- Steps of the items that were changed last.
use Rattle.std.specs.Prelude.{◌≡◌, ℕ, Bool, true, false, ◌&&◌, nat_lt, List, [], ◌∷◌, ◌++◌}
use Rattle.std.specs.Prelude.{Option, filter, map, take, if◌then◌else◌}
use Rattle.std.specs.Ordering.{is_gt, is_lt}
use Rattle.pid_file.specs.PathTexts.{path_text}
use Rattle.pid_file.specs.Trees.{text_cmp}
use Rattle.pid_file.specs.declared.path.Path.{Path}
use Rattle.pid_moderation.specs.ChangePages.{Changed, changed_after, changed_of, start_text}
use Rattle.pid_moderation.specs.Changes.{edited, with_items}
use Rattle.pid_moderation.specs.Views.{Views}
use Rattle.pid_moderation.specs.declared.change.Edit.{Edit}
use Rattle.pid_moderation.specs.declared.change.Edit.TheVariants.{Add, Rename, Remove}
use Rattle.pid_moderation.specs.declared.change.Write.{Write}
use Rattle.pid_moderation.specs.declared.lists.ChangedItem.{ChangedItem}
use Rattle.pid_moderation.specs.declared.lists.TheConstants.{PAGE}

-- it comes after this text, and its number is above this one
abbrev pub comes_after : ℕ → List ℕ → Changed → Bool
comes_after since after c = is_lt (text_cmp after c.path) && nat_lt since c.since

-- those that come after this path, if one is named, and whose numbers are above this one
abbrev pub later_in : ℕ → Option Path → List ChangedItem → List Changed
later_in since after items = filter (comes_after since (start_text after)) (map changed_of items)

-- these are a page of them in the views
abbrev pub IsPage : ℕ → Option Path → Views → List ChangedItem → Type 0
IsPage since after v page = map changed_of page
    ≡ take PAGE (changed_after since (start_text after) v)

-- the views after a write with this number
abbrev pub after_write : ℕ → Write → Views → Views
after_write n w v = with_items n (edited (path_text w.path) w.edit v.items) v

-- a text comes before this one, or else after it
abbrev pub is_on : Bool → List ℕ → List ℕ → Bool
is_on before path text = if before then is_gt (text_cmp path text) else is_lt (text_cmp path text)

-- those that come before a path, or else after it
abbrev pub on_side : Bool → List ℕ → List Changed → List Changed
on_side before path = filter (λ c. is_on before path c.path)

-- the item that an edit with this number leaves at its path
abbrev pub changed_item : ℕ → List ℕ → Edit → List Changed
changed_item n path (Add name) = record { path = path; name = name; since = n } ∷ []
changed_item n path (Rename name) = record { path = path; name = name; since = n } ∷ []
changed_item n path Remove = []

-- those that come before a path, what an edit leaves there, and those that come after it
abbrev pub with_edit : ℕ → List ℕ → Edit → List Changed → List Changed
with_edit n path edit items = on_side true path items
    ++ (changed_item n path edit ++ on_side false path items)
