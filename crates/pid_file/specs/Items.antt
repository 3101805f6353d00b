-- The tree that a list of paths with names stands for.
use Rattle.std.specs.Prelude.{ℕ, List, map}
use Rattle.std.specs.FinMap.{from_entries}
use Rattle.pid_file.specs.declared.path.Path.{Path}
use Rattle.pid_file.specs.PathTexts.{path_text}
use Rattle.pid_file.specs.Trees.{TreeMap}

-- an item: the text of its path, and its name
abbrev pub item_of : Path × List ℕ → List ℕ × List ℕ
item_of e = (path_text e.0, e.1)

-- the map of these items; of those with one path the one that comes first here
abbrev pub tree_of : List (Path × List ℕ) → TreeMap
tree_of es = from_entries (map item_of es)
