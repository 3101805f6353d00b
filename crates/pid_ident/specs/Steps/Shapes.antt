-- Texts of a shape, in which `#` stands for a lower-case hex digit, and the path that a text of each
-- shape has.
use Rattle.std.specs.Prelude.{ℕ, Bool, true, false, ◌&&◌, ◌||◌, ◌==◌, nat_le}
use Rattle.std.specs.Prelude.{if◌then◌else◌, List, [], ◌∷◌, Option, Some, None, codes}
use Rattle.std.specs.Option.{option_or}
use Rattle.pid_file.specs.declared.path.Path.{Path}
use Rattle.pid_file.specs.declared.path.Path.TheVariants.{Vendor, Device, Subsystem, Class, Subclass, ProgIf, Generic}
use Rattle.pid_ident.specs.PathReading.{two_at, four_at}

-- `0` to `9` or `a` to `f`
abbrev pub is_lower_digit : ℕ → Bool
is_lower_digit b = (nat_le 48 b && nat_le b 57) || (nat_le 97 b && nat_le b 102)

-- the byte is one that the mark stands for
abbrev pub fits_mark : ℕ → ℕ → Bool
fits_mark byte mark = if mark == 35 then is_lower_digit byte else byte == mark

-- the text has the shape
abbrev pub fits : List ℕ → List ℕ → Bool
fits [] [] = true
fits [] (mark ∷ marks) = false
fits (byte ∷ bytes) [] = false
fits (byte ∷ bytes) (mark ∷ marks) = fits_mark byte mark && fits bytes marks

-- the path of a vendor or below, of a class or below, of a generic subsystem
abbrev pub device_path : List ℕ → Option Path
device_path text =
    if fits text (codes "PC/####") then Some (Vendor (four_at 3 text))
    else if fits text (codes "PC/####/####") then Some (Device (four_at 3 text) (four_at 8 text))
    else if fits text (codes "PC/####/####/########") then Some (Subsystem (four_at 3 text)
    (four_at 8 text) (four_at 13 text) (four_at 17 text))
    else None

abbrev pub class_path : List ℕ → Option Path
class_path text =
    if fits text (codes "PD/##") then Some (Class (two_at 3 text))
    else if fits text (codes "PD/##/##") then Some (Subclass (two_at 3 text) (two_at 6 text))
    else if fits text (codes "PD/##/##/##") then Some (ProgIf (two_at 3 text) (two_at 6 text)
    (two_at 9 text))
    else None

abbrev pub generic_path : List ℕ → Option Path
generic_path text =
    if fits text (codes "PS/####/####") then Some (Generic (four_at 3 text) (four_at 8 text))
    else None

abbrev pub shaped_path : List ℕ → Option Path
shaped_path text = option_or (option_or (device_path text) (class_path text)) (generic_path text)
