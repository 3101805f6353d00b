-- The columns of a line: its identifiers in hex digits of either case, each with a space or a tab
-- after it, then blanks and its name. pci.ids(5) and the syntax header of the published file.
use Rattle.std.specs.Prelude.{ℕ, zero, suc, Bool, true, false, ◌&&◌, List, [], ◌∷◌, ◌++◌, take, drop, map, nat_lt}
use Rattle.std.specs.Char.{digit_value, to_ascii_lowercase}
use Rattle.pid_file.specs.Bytes.{is_blank, is_empty}
use Rattle.pid_file.specs.Marks.{trim_blanks}

-- a hex digit, in either case
abbrev pub is_hex : ℕ → Bool
is_hex b = nat_lt (digit_value b) 16

-- n hex digits, and then a blank
abbrev pub begins_with_id : ℕ → List ℕ → Bool
begins_with_id n [] = false
begins_with_id zero (b ∷ bs) = is_blank b
begins_with_id (suc n) (b ∷ bs) = is_hex b && begins_with_id n bs

-- identifiers of these widths, each with a blank after it
abbrev pub begins_with_ids : List ℕ → List ℕ → Bool
begins_with_ids [] bytes = true
begins_with_ids (w ∷ ws) bytes = begins_with_id w bytes && begins_with_ids ws (drop (suc w) bytes)

-- n hex digits, and then blanks alone
abbrev pub is_id : ℕ → List ℕ → Bool
is_id zero bytes = is_empty (trim_blanks bytes)
is_id (suc n) [] = false
is_id (suc n) (b ∷ bs) = is_hex b && is_id n bs

-- the digits of the identifiers, in lower case
abbrev pub digits_in : List ℕ → List ℕ → List ℕ
digits_in [] bytes = []
digits_in (w ∷ ws) bytes = map to_ascii_lowercase (take w bytes) ++ digits_in ws
    (drop (suc w) bytes)

-- what follows the identifiers and blanks
abbrev pub name_in : List ℕ → List ℕ → List ℕ
name_in [] bytes = trim_blanks bytes
name_in (w ∷ ws) bytes = name_in ws (drop (suc w) bytes)
