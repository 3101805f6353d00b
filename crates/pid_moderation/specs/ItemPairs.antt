-- An item as a pair of texts.
use Rattle.std.specs.Prelude.{ℕ, List}
use Rattle.pid_file.specs.PathTexts.{path_text}
use Rattle.pid_moderation.specs.declared.lists.Item.{Item}

-- the text of its path, and its name
abbrev pub pair_of : Item → List ℕ × List ℕ
pair_of item = (path_text item.path, item.name)
