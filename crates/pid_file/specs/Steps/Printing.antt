-- Steps of Printing.
use Rattle.std.specs.Prelude.{ℕ, List, []}
use Rattle.std.specs.Prelude.{Option, Some, None}
use Rattle.pid_file.specs.declared.path.Path.{Path}
use Rattle.pid_file.specs.PathTexts.{path_text}

-- the text of the path of the item before; before the first item it is empty
abbrev pub text_or_none : Option Path → List ℕ
text_or_none None = []
text_or_none (Some path) = path_text path
