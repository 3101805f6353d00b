-- What a line is by its own bytes alone: whether it is skipped, its depth, and what a line of depth
-- 0 opens. pci.ids(5) and the syntax header of the published file; blocks of generic subsystems
-- after `S` as pci.ids(5) describes and libpci reads them.
use Rattle.std.specs.Prelude.{ℕ, suc, Bool, true, false, ◌&&◌, List, [], ◌∷◌, drop, nat_le, ◌==◌, if◌then◌else◌}
use Rattle.pid_file.specs.Bytes.{is_blank}
use Rattle.pid_file.specs.declared.line.Mark.{Mark}
use Rattle.pid_file.specs.declared.line.Mark.TheVariants.{Devices, Classes, Generics, Unknown}

-- without its leading blanks
abbrev pub trim_blanks : List ℕ → List ℕ
trim_blanks [] = []
trim_blanks (b ∷ bs) = if is_blank b then trim_blanks bs else b ∷ bs

abbrev pub begins_idle : List ℕ → Bool
begins_idle [] = true
begins_idle (b ∷ bs) = b == 35

-- an idle line says nothing: it has blanks alone, or a `#` after blanks
abbrev pub is_idle : List ℕ → Bool
is_idle line = begins_idle (trim_blanks line)

-- how many tabs lead
abbrev pub depth : List ℕ → ℕ
depth [] = 0
depth (b ∷ bs) = if b == 9 then suc (depth bs) else 0

-- what follows these tabs
abbrev pub body : List ℕ → List ℕ
body [] = []
body (b ∷ bs) = if b == 9 then body bs else b ∷ bs

-- A to Z
abbrev pub is_capital : ℕ → Bool
is_capital b = nat_le 65 b && nat_le b 90

abbrev pub mark_of_letter : ℕ → Mark
mark_of_letter b = if b == 67 then Classes else (if b == 83 then Generics else Unknown)

-- What a line of depth 0 opens: a class after `C` and a space, generic subsystems after `S` and a
-- space, an unknown block after another capital letter and a space, else a vendor. A nested line
-- begins with a tab, which is no capital: its mark is that of vendors, under which `inside` is what
-- follows the tabs.
abbrev pub mark : List ℕ → Mark
mark [] = Devices
mark (b ∷ []) = Devices
mark (b ∷ c ∷ rest) = if is_capital b && c == 32 then mark_of_letter b else Devices

abbrev pub is_unknown : Mark → Bool
is_unknown Unknown = true
is_unknown Devices = false
is_unknown Classes = false
is_unknown Generics = false

abbrev pub is_generics : Mark → Bool
is_generics Generics = true
is_generics Devices = false
is_generics Classes = false
is_generics Unknown = false

abbrev pub after_mark : Mark → List ℕ → List ℕ
after_mark Devices line = body line
after_mark Classes line = drop 2 line
after_mark Generics line = drop 2 line
after_mark Unknown line = drop 2 line

-- what follows the tabs, or the letter and its space
abbrev pub inside : List ℕ → List ℕ
inside line = after_mark (mark line) line
