-- What is kept of the lines that were read shows them, the last one first.
use Rattle.std.specs.Prelude.{◌≡◌, ℕ, Bool, true, List, Option, Some, None, length}
use Rattle.pid_file.specs.declared.path.Path.{Path}
use Rattle.pid_file.specs.PathTexts.{IsPath, path_text}
use Rattle.pid_file.specs.declared.open_levels.OpenLevels.{OpenLevels}
use Rattle.pid_file.specs.declared.lines_read.LinesRead.{LinesRead}
use Rattle.pid_file.specs.LookingBack.{above, head_path, entries_back, is_known_path}
use Rattle.pid_file.specs.OpenLevels.{IsOpenAt}
use Rattle.pid_file.specs.SeenPaths.{AreRising, block_of, has_seen, is_nested}

-- the path of a head, if there is one
abbrev pub open_head_path : Option (List ℕ) → Option (List ℕ)
open_head_path None = None
open_head_path (Some head) = Some (head_path head)

-- the path is below the open head
abbrev pub IsUnder : List (List ℕ) → Path → Type 0
IsUnder earlier q = open_head_path (above 1 earlier) ≡ Some (path_text (block_of q))

-- What was seen, the open levels and the numbers of entries and lines are those of the lines. What
-- was seen of paths below a vendor or a class is known if that is open. No path is without its
-- vendor or class, and one that is open is there.
pub record IsShown (at : OpenLevels) (seen : Path → Bool) (entries lines : ℕ)
    (earlier : List (List ℕ)) : Type 0 where
  pub paths : (q : Path) → IsPath q → (is_nested q ≡ true → IsUnder earlier q)
      → seen q ≡ is_known_path earlier (path_text q)
  pub kin : (q : Path) → IsPath q → is_nested q ≡ true → is_known_path earlier (path_text q) ≡ true
      → is_known_path earlier (path_text (block_of q)) ≡ true
  pub open_head : (q : Path) → IsPath q → is_nested q ≡ true → IsUnder earlier q
      → is_known_path earlier (path_text (block_of q)) ≡ true
  pub count : entries ≡ length (entries_back earlier)
  pub levels : IsOpenAt at earlier
  pub number : lines ≡ length earlier

-- the kept runs of keys rise, and what is kept shows the lines
pub record Shows (p : LinesRead) (earlier : List (List ℕ)) : Type 0 where
  pub rising : AreRising p.seen
  pub shown : IsShown p.levels (has_seen p.seen) p.entries p.lines earlier
