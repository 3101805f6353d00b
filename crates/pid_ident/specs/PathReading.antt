-- The path of a text, and the text of its parent, as functions that compute. A stranger need not
-- read them: laws.rt says that `path_of` is the one path whose text it is, and `parent_text` the
-- text of that path's parent.
use Rattle.std.specs.Prelude.{ℕ, ◌+◌, ◌-◌, ◌*◌, ◌%◌, ◌==◌, ◌++◌, nat_le, if◌then◌else◌, List}
use Rattle.std.specs.Prelude.{length, take, drop, slice_index, Option, Some, None, codes}
use Rattle.std.specs.Str.{bytes_eq}
use Rattle.pid_file.specs.declared.path.Path.{Path}
use Rattle.pid_file.specs.declared.path.Path.TheVariants.{Vendor, Device, Subsystem, Class}
use Rattle.pid_file.specs.declared.path.Path.TheVariants.{Subclass, ProgIf, Generic}
use Rattle.pid_file.specs.PathTexts.{path_text}

-- the value of a lower-case hex digit
abbrev pub hex_value : ℕ → ℕ
hex_value b = (if nat_le b 57 then b - 48 else b - 87) % 16

-- the digit at a place
abbrev pub digit_at : ℕ → List ℕ → ℕ
digit_at i text = hex_value (slice_index text i)

-- the number of two digits, and of four
abbrev pub two_at : ℕ → List ℕ → ℕ
two_at i text = 16 * digit_at i text + digit_at (i + 1) text

abbrev pub four_at : ℕ → List ℕ → ℕ
four_at i text = 256 * two_at i text + two_at (i + 2) text

-- the only path that a text of this length and these letters may have: the second letter parts
-- PC/8086/1237 from PS/8086/1237
abbrev pub candidate : List ℕ → Option Path
candidate text =
    if length text == 7 then Some (Vendor (four_at 3 text))
    else if length text == 12 then Some (if slice_index text 1 == 83 then Generic (four_at 3 text)
    (four_at 8 text) else Device (four_at 3 text) (four_at 8 text))
    else if length text == 21 then Some (Subsystem (four_at 3 text) (four_at 8 text)
    (four_at 13 text) (four_at 17 text))
    else if length text == 5 then Some (Class (two_at 3 text))
    else if length text == 8 then Some (Subclass (two_at 3 text) (two_at 6 text))
    else if length text == 11 then Some (ProgIf (two_at 3 text) (two_at 6 text) (two_at 9 text))
    else None

abbrev pub if_its_text : List ℕ → Option Path → Option Path
if_its_text text None = None
if_its_text text (Some path) = if bytes_eq (path_text path) text then Some path else None

-- the path whose text it is, if there is one
abbrev pub path_of : List ℕ → Option Path
path_of text = if_its_text text (candidate text)

-- the text of the parent of the path with this text, by its length: that of PC/8086/1237 and of
-- PS/8086/1237 is PC/8086
abbrev pub parent_text : List ℕ → Option (List ℕ)
parent_text text =
    if length text == 12 then Some (codes "PC" ++ take 5 (drop 2 text))
    else if length text == 21 then Some (take 12 text)
    else if length text == 8 then Some (take 5 text)
    else if length text == 11 then Some (take 8 text)
    else None
