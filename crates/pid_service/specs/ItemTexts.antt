-- The canonical text of items, which are in the bytewise order of their paths' texts: a choice of
-- this project, as that of a tree. laws.rt says that the text of a history's items is that of its
-- tree.
use Rattle.std.specs.Prelude.{ℕ, List, [], ◌∷◌, length}
use Rattle.pid_moderation.specs.Items.{Items}
use Rattle.pid_file.specs.Printing.{ended, header, lines_after}

-- the header, and the lines of each item, a block's line before the first generic subsystem of each
-- vendor
abbrev pub text_of_items : Items → List ℕ
text_of_items items = ended (header ∷ lines_after [] items)

-- the lines of items as a text, after an item whose path has this text
abbrev pub text_behind : List ℕ → Items → List ℕ
text_behind before items = ended (lines_after before items)

-- the texts of paths, and how long the lines of each of these items are, in bytes
abbrev pub extents_after : List ℕ → Items → List (List ℕ × ℕ)
extents_after before [] = []
extents_after before (item ∷ items) = (item.0, length (text_behind before (item ∷ [])))
    ∷ extents_after item.0 items
