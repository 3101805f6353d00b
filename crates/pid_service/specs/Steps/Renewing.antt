-- Steps of a text that is renewed where one item is written.
use Rattle.std.specs.Prelude.{◌≡◌, ℕ, ◌+◌, ◌≤◌, Bool, true, false, List, [], ◌∷◌, ◌++◌, drop, length, map}
use Rattle.std.specs.Prelude.{take, Option, Some, if◌then◌else◌}
use Rattle.std.specs.List.{AllByRecursion}
use Rattle.std.specs.declared.cmp.Ordering.TheVariants.{Less, Equal, Greater}
use Rattle.pid_file.specs.PathTexts.{path_text}
use Rattle.pid_file.specs.Printing.{opens_block}
use Rattle.pid_file.specs.Steps.Printing.{text_or_none}
use Rattle.pid_file.specs.Trees.{text_cmp}
use Rattle.pid_file.specs.declared.path.Path.{Path}
use Rattle.pid_moderation.specs.Items.{Items}
use Rattle.pid_moderation.specs.declared.change.Edit.{Edit}
use Rattle.pid_moderation.specs.declared.change.Edit.TheVariants.{Add, Rename, Remove}
use Rattle.pid_moderation.specs.declared.change.Write.{Write}
use Rattle.pid_service.specs.Steps.ItemTexts.{Extents}
use Rattle.pid_service.specs.KeptViews.{extent_in}
use Rattle.pid_service.specs.declared.items_text.GrowingText.{GrowingText}
use Rattle.pid_service.specs.declared.kept_text.Extent.{Extent}
use Rattle.pid_service.specs.declared.kept_text.KeptText.{KeptText}
use Rattle.pid_service.specs.declared.renewing.TextPlace.{TextPlace}

-- the item that an edit leaves at its path
abbrev pub edited_item : List ℕ → Edit → Items
edited_item path (Add name) = (path, name) ∷ []
edited_item path (Rename name) = (path, name) ∷ []
edited_item path Remove = []

abbrev pub new_items : Write → Items
new_items write = edited_item (path_text write.path) write.edit

-- how many bytes the lines have
abbrev pub bytes_in : Extents → ℕ
bytes_in [] = 0
bytes_in (e ∷ extents) = e.1 + bytes_in extents

-- the path of the last of them
abbrev pub last_extent : List ℕ → Extents → List ℕ
last_extent before [] = before
last_extent before (e ∷ extents) = last_extent e.0 extents

-- this is the path itself, or what comes after it comes first
abbrev pub BeginsAt : List ℕ → Bool → Extents → Type 0
BeginsAt path true [] = ⊥
BeginsAt path true (e ∷ extents) = text_cmp path e.0 ≡ Equal
BeginsAt path false [] = Unit {0}
BeginsAt path false (e ∷ extents) = text_cmp path e.0 ≡ Less

-- the first of them opens a block after the one path as it does after the other
abbrev pub OpensTheSame : (before now : List ℕ) → Extents → Type 0
OpensTheSame before now [] = Unit {0}
OpensTheSame before now (e ∷ extents) = opens_block before e.0 ≡ opens_block now e.0

-- a place in a list of extents: what comes before the path, and what comes from there on
pub record IsPlace (place : TextPlace) (extents : Extents) (path : List ℕ) : Type 0 where
  pub within : place.after ≤ length extents
  pub after : place.after ≡ (if place.there then place.index + 1 else place.index)
  pub start : place.start ≡ 18 + bytes_in (take place.index extents)
  pub end : place.end ≡ 18 + bytes_in (take place.after extents)
  pub before : text_or_none place.before ≡ last_extent [] (take place.index extents)
  pub below : AllByRecursion (λ (e : List ℕ × ℕ). text_cmp path e.0 ≡ Greater)
      (take place.index extents)
  pub stands : BeginsAt path place.there (drop place.index extents)

-- the path before what follows a place: that of the place, if there are lines at it
abbrev pub path_before : TextPlace → Path → Bool → Option Path
path_before place path has_lines = if has_lines then Some path else place.before

abbrev pub has_lines : List Extent → Bool
has_lines [] = false
has_lines (e ∷ extents) = true

-- lines are put in the place of others
pub record PutsLines (old new : KeptText) (place : TextPlace) (path : Path)
    (lines : GrowingText) : Type 0 where
  pub bytes : new.bytes.items ≡ take place.start old.bytes.items
      ++ (lines.buffer.taken.items ++ drop place.end old.bytes.items)
  pub extents : new.extents.items ≡ take place.index old.extents.items
      ++ (lines.extents.items ++ drop place.after old.extents.items)
  pub opens : OpensTheSame (text_or_none (path_before place path place.there))
      (text_or_none (path_before place path (has_lines lines.extents.items)))
      (map extent_in (drop place.after old.extents.items))
