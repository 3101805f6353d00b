-- Steps of OpenLevels.
use Rattle.std.specs.Prelude.{ℕ, ◌==◌, if◌then◌else◌}
use Rattle.std.specs.Prelude.{Option, Some, None, Result, Ok, Err, MatchResult}
use Rattle.pid_file.specs.declared.fault_kind.LineKind.{LineKind}
use Rattle.pid_file.specs.declared.fault_kind.LineKind.TheVariants.{TooDeep, NoParent}
use Rattle.pid_file.specs.declared.entry_line.EntryKind.{EntryKind}
use Rattle.pid_file.specs.declared.entry_line.EntryKind.TheVariants as places
use Rattle.pid_file.specs.declared.open_levels.OpenLevels.{OpenLevels}
use Rattle.pid_file.specs.declared.open_levels.OpenLevels.TheVariants.{Nothing, Unknown, Vendor}
use Rattle.pid_file.specs.declared.open_levels.OpenLevels.TheVariants.{Device, Class, Subclass}
use Rattle.pid_file.specs.declared.open_levels.OpenLevels.TheVariants.{Generics}
use Rattle.pid_file.specs.Marks.{depth}
use Rattle.std.specs.Prelude.{◌≡◌, true, false, List, [], ◌∷◌}
use Rattle.pid_file.specs.declared.path.Path.{Path}
use Rattle.pid_file.specs.Identifiers.{hex4}
use Rattle.pid_file.specs.PathTexts.{path_text}
use Rattle.pid_file.specs.declared.open_levels.LineContent.{LineContent}
use Rattle.pid_file.specs.Marks.{inside}
use Rattle.pid_file.specs.Columns.{digits_in}
use Rattle.pid_file.specs.LookingBack.{Item, is_block, entry_of}
use Rattle.pid_file.specs.Faults.{line_fault_of}
use Rattle.pid_file.specs.declared.path.Path.TheVariants as paths
use Rattle.pid_file.specs.declared.open_levels.LineContent.TheVariants as said
use Rattle.pid_file.specs.OpenLevels.{IsOpenAt}

-- what a line of depth 1, of depth 2, and of a greater one names below open levels; none if it
-- is skipped
abbrev pub first_below : OpenLevels → Result (Option EntryKind) LineKind
first_below Nothing = Err NoParent
first_below Unknown = Ok None
first_below (Vendor v) = Ok (Some (places.Device v))
first_below (Device v d) = Ok (Some (places.Device v))
first_below (Class c) = Ok (Some (places.Subclass c))
first_below (Subclass c s) = Ok (Some (places.Subclass c))
first_below (Generics v) = Ok (Some (places.Generic v))

abbrev pub second_below : OpenLevels → Result (Option EntryKind) LineKind
second_below Nothing = Err NoParent
second_below Unknown = Ok None
second_below (Vendor v) = Err NoParent
second_below (Device v d) = Ok (Some (places.Subsystem v d))
second_below (Class c) = Err NoParent
second_below (Subclass c s) = Ok (Some (places.ProgIf c s))
second_below (Generics v) = Err TooDeep

abbrev pub deeper_below : OpenLevels → Result (Option EntryKind) LineKind
deeper_below Unknown = Ok None
deeper_below Nothing = Err TooDeep
deeper_below (Vendor v) = Err TooDeep
deeper_below (Device v d) = Err TooDeep
deeper_below (Class c) = Err TooDeep
deeper_below (Subclass c s) = Err TooDeep
deeper_below (Generics v) = Err TooDeep

abbrev pub below : OpenLevels → ℕ → Result (Option EntryKind) LineKind
below at depth = if depth == 1 then first_below at else
    (if depth == 2 then second_below at else deeper_below at)

-- the entry that is said, if any
abbrev pub items_of : LineContent → List Item
items_of said.Nothing = []
items_of said.Unknown = []
items_of (said.Block v) = []
items_of (said.Entry e) = (path_text e.path, e.name.now) ∷ []

-- whether a line is the line of a block, and of which vendor
abbrev pub IsBlockOf : LineContent → List ℕ → Type 0
IsBlockOf said.Nothing line = is_block line ≡ false
IsBlockOf said.Unknown line = is_block line ≡ false
IsBlockOf (said.Block v) line = (is_block line ≡ true) × (digits_in (4 ∷ []) (inside line) ≡ hex4 v)
IsBlockOf (said.Entry e) line = is_block line ≡ false

-- the levels that are open after an entry
abbrev pub open_below : Path → OpenLevels
open_below (paths.Vendor v) = Vendor v
open_below (paths.Device v d) = Device v d
open_below (paths.Subsystem v d s e) = Device v d
open_below (paths.Class c) = Class c
open_below (paths.Subclass c s) = Subclass c s
open_below (paths.ProgIf c s i) = Subclass c s
open_below (paths.Generic v d) = Generics v

-- the levels that are open after a line
abbrev pub open_after : OpenLevels → LineContent → OpenLevels
open_after at said.Nothing = at
open_after at said.Unknown = Unknown
open_after at (said.Block v) = Generics v
open_after at (said.Entry e) = open_below e.path

-- what a line says after others that leave these levels open
pub record Says (at : OpenLevels) (earlier : List (List ℕ)) (line : List ℕ)
    (s : LineContent) : Type 0 where
  pub good : line_fault_of earlier line ≡ None
  pub entry : items_of s ≡ entry_of earlier line
  pub block : IsBlockOf s line
  pub after : IsOpenAt (open_after at s) (line ∷ earlier)

-- what a line says is read, or what is wrong with it by its own bytes and the open levels
abbrev pub ReadsLine : OpenLevels → List (List ℕ) → List ℕ → Result LineContent LineKind → Type 0
ReadsLine at earlier line result = MatchResult result (Says at earlier line)
    (λ kind. line_fault_of earlier line ≡ Some kind)
