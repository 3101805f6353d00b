-- Steps of a sink that adds up lengths and keeps lines.
use Rattle.std.specs.Prelude.{◌≡◌, ℕ, ◌+◌, ◌<◌, ◌^◌, List, [], ◌∷◌, ◌++◌, length}
use Rattle.std.specs.Prelude.{Option, IfSome, Some, if◌then◌else◌, map}
use Rattle.pid_reader.specs.Numbered.{Numbered, item_in}
use Rattle.pid_file.specs.Printing.{block_line, opens_block}
use Rattle.pid_file.specs.Steps.Printing.{text_or_none}
use Rattle.pid_moderation.specs.Items.{Items}
use Rattle.pid_service.specs.ItemTexts.{extents_after, text_behind}
use Rattle.pid_service.specs.Steps.ItemTexts.{Extents}
use Rattle.pid_service.specs.KeptViews.{extent_in}
use Rattle.pid_service.specs.declared.items_text.GrowingText.{GrowingText}
use Rattle.pid_service.specs.declared.items_text.TextSink.{TextSink}

-- the line that comes between two items, if one does
abbrev pub block_after : List ℕ → List ℕ → List (List ℕ)
block_after before path = if opens_block before path then block_line path ∷ [] else []

-- the bytes and the extents of a text
pub record HasLines (text : GrowingText) (bytes : List ℕ) (extents : Extents) : Type 0 where
  pub bytes_are : text.buffer.taken.items ≡ bytes
  pub extents_are : map extent_in text.extents.items ≡ extents

-- they are those of these items, which come after a path
abbrev pub HasItems : GrowingText → List ℕ → Items → Type 0
HasItems text before items = HasLines text (text_behind before items) (extents_after before items)

-- the lines of these items were added
abbrev pub AddsLines : (old new : GrowingText) → List ℕ → Items → Type 0
AddsLines old new before items = (bytes : List ℕ) (extents : Extents) → HasLines old bytes extents
    → HasLines new (bytes ++ text_behind before items) (extents ++ extents_after before items)

-- what is kept now was kept before, with the lines of these items after it
abbrev pub Lengthens : Option GrowingText → Option GrowingText → List ℕ → Items → Type 0
Lengthens old new before items = IfSome new (λ now. (was : GrowingText) × (old ≡ Some was)
    × AddsLines was now before items)

-- one entry is counted, if the sum fits, and is now the one before; its lines are kept after
-- those that were, or no text is kept any more
pub record TakesItem (s : TextSink) (entry : Numbered) (t : TextSink) : Type 0 where
  pub before : text_or_none t.before ≡ (item_in entry).0
  pub counted : s.bytes + length (text_behind (text_or_none s.before) (item_in entry ∷ []))
      < 2 ^ 64
      → t.bytes ≡ s.bytes + length (text_behind (text_or_none s.before) (item_in entry ∷ []))
  pub text : Lengthens s.text t.text (text_or_none s.before) (item_in entry ∷ [])
