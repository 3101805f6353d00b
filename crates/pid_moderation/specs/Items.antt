-- Items: the texts of paths with their names, in the bytewise order of the texts.
use Rattle.std.specs.Prelude.{ℕ, Bool, true, false, not, ◌&&◌, List, [], ◌∷◌, Option, Some, None}
use Rattle.std.specs.Prelude.{is_none, is_some, count_by}
use Rattle.std.specs.List.{list_any}
use Rattle.std.specs.Str.{bytes_eq}
use Rattle.std.specs.Ordering.{eq_by_cmp}
use Rattle.std.specs.FinMap.Entries.{put, find, where_key}
use Rattle.pid_ident.specs.PathReading.{parent_text}
use Rattle.pid_file.specs.Trees.{text_cmp}
use Rattle.pid_moderation.specs.declared.command.Proposal.{Proposal}
use Rattle.pid_moderation.specs.declared.command.Proposal.TheVariants.{Name, Removal}

abbrev pub Items : Type 0
Items = List (List ℕ × List ℕ)

-- the name at a path
abbrev pub name_at : List ℕ → Items → Option (List ℕ)
name_at path items = find text_cmp path items

-- the item of a path, set or removed
abbrev pub written : List ℕ → Proposal → Items → Items
written path (Name name) items = put text_cmp path name items
written path Removal items = where_key text_cmp (λ k. not (eq_by_cmp text_cmp path k)) items

-- the items after these pairs were put in turn, of which the last is the first here: if a path
-- comes twice, its name is the one that comes first
abbrev pub imported : Items → Items → Items
imported [] items = items
imported (pair ∷ pairs) items = put text_cmp pair.0 pair.1 (imported pairs items)

-- whether the parent of a path is there; a path of the top has none
abbrev pub holds_parent : Option (List ℕ) → Items → Bool
holds_parent None items = true
holds_parent (Some parent) items = is_some (name_at parent items)

abbrev pub is_parent : List ℕ → Option (List ℕ) → Bool
is_parent path None = false
is_parent path (Some parent) = bytes_eq path parent

-- whether some item has the path as its parent
abbrev pub has_children : List ℕ → Items → Bool
has_children path items = list_any (λ e. is_parent path (parent_text e.0)) items

abbrev pub has_name : List ℕ → Option (List ℕ) → Bool
has_name name None = false
has_name name (Some old) = bytes_eq name old

-- how many of the pairs are new to the items, have their names there already, and change a name
abbrev pub count_new : Items → Items → ℕ
count_new items pairs = count_by (λ e. is_none (name_at e.0 items)) pairs

abbrev pub count_same : Items → Items → ℕ
count_same items pairs = count_by (λ e. has_name e.1 (name_at e.0 items)) pairs

abbrev pub count_renamed : Items → Items → ℕ
count_renamed items pairs = count_by (λ e. is_some (name_at e.0 items) && not
    (has_name e.1 (name_at e.0 items))) pairs
