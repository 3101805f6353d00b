-- Steps of items that are read from the text that is kept.
use Rattle.std.specs.Prelude.{ℕ, List, ◌++◌, codes}
use Rattle.pid_file.specs.Printing.{ended, label_of}
use Rattle.pid_service.specs.Steps.TextSinks.{block_after}

-- what comes before the name in the lines of an item
abbrev pub before_name : List ℕ → List ℕ → List ℕ
before_name before path = ended (block_after before path) ++ (label_of path ++ codes "  ")
