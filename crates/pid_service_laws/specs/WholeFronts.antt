-- Whole lines of a text: what an export has written if memory or the store fails it.
use Rattle.std.specs.Prelude.{◌≡◌, ℕ, List, [], ◌++◌}
use Rattle.pid_file.specs.WholeLines.{open_part}

-- a prefix of the text that holds whole lines, or nothing: no line of it is open
pub record IsWholeFront (text front : List ℕ) : Type 0 where
  pub behind : List ℕ
  pub is : text ≡ front ++ behind
  pub whole : open_part front ≡ []
