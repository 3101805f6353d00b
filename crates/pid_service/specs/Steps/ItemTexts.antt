-- What is kept of the text of all items.
use Rattle.std.specs.Prelude.{◌≡◌, ℕ, List, Option, length}
use Rattle.pid_moderation.specs.Items.{Items}
use Rattle.pid_service.specs.ItemTexts.{text_of_items}
use Rattle.pid_service.specs.KeptViews.{HoldsText}
use Rattle.pid_service.specs.declared.kept_text.KeptText.{KeptText}

-- the texts of paths, each with a length in bytes
abbrev pub Extents : Type 0
Extents = List (List ℕ × ℕ)

-- a text's length in bytes, and the text itself if it is in memory
pub record IsCountedText (bytes : ℕ) (text : Option KeptText) (items : Items) : Type 0 where
  pub counted : bytes ≡ length (text_of_items items)
  pub kept : HoldsText text items
