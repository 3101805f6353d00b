-- How names and numbers are set: libpci's format_name and format_name_pair.
use Rattle.std.specs.Prelude.{ℕ, if◌then◌else◌, List, ◌++◌, drop, Option, Some, None, codes}
use Rattle.pid_lookup.specs.Flags.{Switches}

-- a number after a name or a word
abbrev pub bracketed : List ℕ → List ℕ
bracketed number = codes " [" ++ number ++ codes "]"

-- one name, with the word that stands for an unknown one; no text is no answer
abbrev pub one_text : Switches → List ℕ → List ℕ → Option (List ℕ) → Option (List ℕ)
one_text s number word None =
    if s.no_numbers then None else
    (if s.numeric then Some number else
    (if s.mixed then Some (word ++ bracketed number) else
    Some (word ++ codes " " ++ number)))
one_text s number word (Some name) =
    if s.numeric then Some number else
    (if s.mixed then Some (name ++ bracketed number) else
    Some name)

-- the last four digits of the number of a pair
abbrev pub second_half : List ℕ → List ℕ
second_half number = drop 5 number

-- a vendor and a device; without the vendor the device is not shown
abbrev pub pair_text : Switches → List ℕ → Option (List ℕ) → Option (List ℕ) → Option (List ℕ)
pair_text s number None d =
    if s.no_numbers then None else
    (if s.numeric then Some number else
    (if s.mixed then Some (codes "Device" ++ bracketed number) else
    Some (codes "Device " ++ number)))
pair_text s number (Some v) None =
    if s.no_numbers then None else
    (if s.numeric then Some number else
    (if s.mixed then Some (v ++ codes " Device" ++ bracketed number) else
    Some (v ++ codes " Device " ++ second_half number)))
pair_text s number (Some v) (Some d) =
    if s.numeric then Some number else
    (if s.mixed then Some (v ++ codes " " ++ d ++ bracketed number) else
    Some (v ++ codes " " ++ d))
