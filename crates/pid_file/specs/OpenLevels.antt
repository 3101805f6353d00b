-- What the open levels of a reader show of the lines that it has read, the nearest first.
use Rattle.std.specs.Prelude.{◌≡◌, ℕ, List, ◌++◌}
use Rattle.std.specs.Prelude.{Some, None, codes}
use Rattle.pid_file.specs.Identifiers.{hex4, hex2}
use Rattle.pid_file.specs.declared.line.Mark.{Mark}
use Rattle.pid_file.specs.declared.line.Mark.TheVariants as marks
use Rattle.pid_file.specs.declared.open_levels.OpenLevels.{OpenLevels}
use Rattle.pid_file.specs.declared.open_levels.OpenLevels.TheVariants.{Nothing, Unknown, Vendor}
use Rattle.pid_file.specs.declared.open_levels.OpenLevels.TheVariants.{Device, Class, Subclass}
use Rattle.pid_file.specs.declared.open_levels.OpenLevels.TheVariants.{Generics}
use Rattle.pid_file.specs.Marks.{depth, mark, inside}
use Rattle.pid_file.specs.Levels.{widths}
use Rattle.pid_file.specs.Columns.{digits_in}
use Rattle.pid_file.specs.LookingBack.{above, head_path}

-- the open head: the nearest line of depth 0, with its mark and its path
pub record Under (earlier : List (List ℕ)) (m : Mark) (top : List ℕ) : Type 0 where
  pub head : List ℕ
  pub is_head : above 1 earlier ≡ Some head
  pub flat : depth head ≡ 0
  pub marked : mark head ≡ m
  pub path : head_path head ≡ top

-- the open line of depth 1, with its digits
pub record Below (earlier : List (List ℕ)) (m : Mark) (digits : List ℕ) : Type 0 where
  pub line : List ℕ
  pub is_open : above 2 earlier ≡ Some line
  pub nested : depth line ≡ 1
  pub says : digits_in (widths m 1) (inside line) ≡ digits

-- no line of depth 1 is open below the head
pub record IsBare (earlier : List (List ℕ)) : Type 0 where
  pub nearest : List ℕ
  pub is_nearest : above 2 earlier ≡ Some nearest
  pub flat : depth nearest ≡ 0

-- the head is an unknown block
pub record IsUnknown (earlier : List (List ℕ)) : Type 0 where
  pub head : List ℕ
  pub is_head : above 1 earlier ≡ Some head
  pub marked : mark head ≡ marks.Unknown

abbrev pub IsOpenAt : OpenLevels → List (List ℕ) → Type 0
IsOpenAt Nothing earlier = (above 1 earlier ≡ None) × (above 2 earlier ≡ None)
IsOpenAt Unknown earlier = IsUnknown earlier
IsOpenAt (Vendor v) earlier = Under earlier marks.Devices (codes "PC/" ++ hex4 v) × IsBare earlier
IsOpenAt (Device v d) earlier = Under earlier marks.Devices (codes "PC/" ++ hex4 v)
    × Below earlier marks.Devices (hex4 d)
IsOpenAt (Class c) earlier = Under earlier marks.Classes (codes "PD/" ++ hex2 c) × IsBare earlier
IsOpenAt (Subclass c s) earlier = Under earlier marks.Classes (codes "PD/" ++ hex2 c)
    × Below earlier marks.Classes (hex2 s)
IsOpenAt (Generics v) earlier = Under earlier marks.Generics (codes "PS/" ++ hex4 v)
