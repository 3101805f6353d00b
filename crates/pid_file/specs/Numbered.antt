-- The entries of lines, each with the number of its line, counted from 1.
use Rattle.std.specs.Prelude.{ℕ, ◌+◌, List, [], ◌∷◌, ◌++◌, length, map}
use Rattle.pid_file.specs.PathTexts.{path_text}
use Rattle.pid_file.specs.declared.sink.Entry.{Entry}
use Rattle.pid_file.specs.LookingBack.{Item, entry_of}
use Rattle.pid_file.specs.Reading.{read_from}

-- the number of a line, and the entry of that line: the text of its path, and its name
abbrev pub Numbered : Type 0
Numbered = ℕ × Item

-- an entry of the code as a numbered entry
abbrev pub as_numbered : Entry → Numbered
as_numbered e = (e.line, (path_text e.path, e.name.now))

abbrev pub at_line : ℕ → Item → Numbered
at_line number item = (number, item)

abbrev pub item_in : Numbered → Item
item_in entry = entry.1

-- the entry of a line, if it is one, with one more than the number of lines before it
abbrev pub numbered_at : List (List ℕ) → List ℕ → List Numbered
numbered_at earlier line = map (at_line (length earlier + 1)) (entry_of earlier line)

-- the entries of lines, of which the last is the first here, in the same order
abbrev pub numbered_back : List (List ℕ) → List Numbered
numbered_back [] = []
numbered_back (line ∷ earlier) = numbered_at earlier line ++ numbered_back earlier

-- the entries of lines before the first refusal, the last one first
abbrev pub numbered_of : List (List ℕ) → List Numbered
numbered_of lines = numbered_back (read_from [] lines)
