-- The table of the levels below each mark: how the paths begin, and how many hex digits each
-- identifier of a line has. pci.ids(5) and the syntax header of the published file, and for generic
-- subsystems libpci too. PC and PD are those of the PCI ID Repository's pages, and PS is a choice
-- of this project.
use Rattle.std.specs.Prelude.{ℕ, zero, suc, List, [], ◌∷◌, codes}
use Rattle.pid_file.specs.declared.line.Mark.{Mark}
use Rattle.pid_file.specs.declared.line.Mark.TheVariants.{Devices, Classes, Generics, Unknown}

abbrev pub front : Mark → List ℕ
front Devices = codes "PC/"
front Classes = codes "PD/"
front Generics = codes "PS/"
front Unknown = []

-- for each depth, the digits of each identifier: a subsystem's line has two
abbrev pub levels : Mark → List (List ℕ)
levels Devices = (4 ∷ []) ∷ (4 ∷ []) ∷ (4 ∷ 4 ∷ []) ∷ []
levels Classes = (2 ∷ []) ∷ (2 ∷ []) ∷ (2 ∷ []) ∷ []
levels Generics = (4 ∷ []) ∷ (4 ∷ []) ∷ []
levels Unknown = []

abbrev pub level : ℕ → List (List ℕ) → List ℕ
level n [] = []
level zero (l ∷ ls) = l
level (suc n) (l ∷ ls) = level n ls

-- the digits of each identifier in a line of this depth
abbrev pub widths : Mark → ℕ → List ℕ
widths m d = level d (levels m)
