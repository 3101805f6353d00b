-- What the entries of a text are that is refused nowhere.
use Rattle.std.specs.Prelude.{◌≡◌, List, [], ◌∷◌, None, IsTrue, IsSome, IfSome}
use Rattle.std.specs.FinMap.Entries.{find as name_at}
use Rattle.pid_file.specs.declared.path.Path.{Path}
use Rattle.pid_file.specs.PathTexts.{IsTextOf, path_text, parent_of}
use Rattle.pid_file.specs.Trees.{text_cmp}
use Rattle.pid_file.specs.Words.{is_name}
use Rattle.pid_file.specs.LookingBack.{Item}

-- an entry after others, the last of them first: a name at a path that none of them has, and whose
-- parent is among them
pub record IsNextEntry (entry : Item) (others : List Item) : Type 0 where
  pub path : Path
  pub text : IsTextOf entry.0 path
  pub named : IsTrue (is_name entry.1)
  pub new : name_at text_cmp entry.0 others ≡ None
  pub parent : IfSome (parent_of path) (λ q. IsSome (name_at text_cmp (path_text q) others))

-- each entry, of which the last is the first here, is one after those before it
abbrev pub AreEntries : List Item → Type 0
AreEntries [] = Unit {0}
AreEntries (entry ∷ others) = IsNextEntry entry others × AreEntries others
