-- What is wrong with the columns of a line, and what a line names, except for its own digits.
-- Serves private functions alone; no promise rests on it.
use Rattle.std.specs.Prelude.{◌≡◌, ◌<◌, ℕ, true, not, List, [], ◌∷◌, ◌++◌, if◌then◌else◌, Option}
use Rattle.std.specs.Prelude.{Some, None}
use Rattle.pid_file.specs.declared.fault_kind.LineKind.{LineKind}
use Rattle.pid_file.specs.declared.fault_kind.LineKind.TheVariants.{BadId, NoName, BadName}
use Rattle.pid_file.specs.declared.path.Path.{Path}
use Rattle.pid_file.specs.declared.path.Path.TheVariants as paths
use Rattle.pid_file.specs.Bytes.{is_empty}
use Rattle.pid_file.specs.Words.{is_name}
use Rattle.pid_file.specs.Identifiers.{hex4, hex2}
use Rattle.pid_file.specs.Marks.{trim_blanks}
use Rattle.pid_file.specs.Columns.{begins_with_ids, digits_in, name_in}
use Rattle.pid_file.specs.declared.entry_line.EntryKind.{EntryKind}
use Rattle.pid_file.specs.declared.entry_line.EntryKind.TheVariants.{Vendor, Device, Subsystem}
use Rattle.pid_file.specs.declared.entry_line.EntryKind.TheVariants.{Class}
use Rattle.pid_file.specs.declared.entry_line.EntryKind.TheVariants.{Subclass, ProgIf, Generic}

abbrev pub name_fault : List ℕ → Option LineKind
name_fault name = if is_empty name then Some NoName else
    (if not (is_name name) then Some BadName else None)

-- the least kind from BadId to BadName, if the identifiers have these widths
abbrev pub columns_fault : List ℕ → List ℕ → Option LineKind
columns_fault ws bytes = if not (begins_with_ids ws bytes) then Some BadId else name_fault
    (name_in ws bytes)

-- the digits of each identifier
abbrev pub widths_of : EntryKind → List ℕ
widths_of Vendor = 4 ∷ []
widths_of (Device v) = 4 ∷ []
widths_of (Subsystem v d) = 4 ∷ 4 ∷ []
widths_of Class = 2 ∷ []
widths_of (Subclass c) = 2 ∷ []
widths_of (ProgIf c s) = 2 ∷ []
widths_of (Generic v) = 4 ∷ []

-- the path of a place, with these digits as its own
abbrev pub IsPathAt : EntryKind → Path → List ℕ → Type 0
IsPathAt Vendor (paths.Vendor v) digits = digits ≡ hex4 v
IsPathAt (Device v) (paths.Device w d) digits = (w ≡ v) × (digits ≡ hex4 d)
IsPathAt (Subsystem v d) (paths.Subsystem w e s t) digits = (w ≡ v) × (e ≡ d)
    × (digits ≡ hex4 s ++ hex4 t)
IsPathAt Class (paths.Class c) digits = digits ≡ hex2 c
IsPathAt (Subclass c) (paths.Subclass b s) digits = (b ≡ c) × (digits ≡ hex2 s)
IsPathAt (ProgIf c s) (paths.ProgIf b r i) digits = (b ≡ c) × (r ≡ s) × (digits ≡ hex2 i)
IsPathAt (Generic v) (paths.Generic w d) digits = (w ≡ v) × (digits ≡ hex4 d)
IsPathAt _ _ digits = ⊥

-- below what the first of a place's own numbers is
abbrev pub bound_of : EntryKind → ℕ
bound_of Vendor = 65536
bound_of (Device v) = 65536
bound_of (Subsystem v d) = 65536
bound_of Class = 256
bound_of (Subclass c) = 256
bound_of (ProgIf c s) = 256
bound_of (Generic v) = 65536

-- the digits of a place's own numbers: one, or two of a subsystem
abbrev pub digits_of : EntryKind → ℕ → ℕ → List ℕ
digits_of Vendor a b = hex4 a
digits_of (Device v) a b = hex4 a
digits_of (Subsystem v d) a b = hex4 a ++ hex4 b
digits_of Class a b = hex2 a
digits_of (Subclass c) a b = hex2 a
digits_of (ProgIf c s) a b = hex2 a
digits_of (Generic v) a b = hex4 a

-- the numbers that the bytes begin with, and what follows them
pub record AreIds (place : EntryKind) (bytes : List ℕ) (first second : ℕ) (rest : List ℕ)
    : Type 0 where
  pub small : first < bound_of place
  pub begins : begins_with_ids (widths_of place) bytes ≡ true
  pub says : digits_in (widths_of place) bytes ≡ digits_of place first second
  pub after : name_in (widths_of place) bytes ≡ trim_blanks rest
