-- The text of each path, its parent, its kind and its order.
-- The texts are those of the PCI ID Repository's pages (`read/PC/8086/1237`, `read/PD/01/01`);
-- `PS` for generic subsystems is a choice of this project.
use Rattle.std.specs.Prelude.{◌≡◌, ℕ, ◌<◌, ◌^◌, List, [], ◌∷◌, ◌++◌, Option, Some, None, codes}
use Rattle.pid_file.specs.declared.path.Path.{Path}
use Rattle.pid_file.specs.declared.path.Path.TheVariants.{Vendor, Device, Subsystem, Class, Subclass, ProgIf, Generic}
use Rattle.pid_file.specs.Identifiers.{hex4, hex2}

-- the numbers that identifiers have
abbrev pub IsPath : Path → Type 0
IsPath (Vendor v) = v < 2 ^ 16
IsPath (Device v d) = (v < 2 ^ 16) × (d < 2 ^ 16)
IsPath (Subsystem v d s e) = (v < 2 ^ 16) × (d < 2 ^ 16) × (s < 2 ^ 16) × (e < 2 ^ 16)
IsPath (Class c) = c < 2 ^ 8
IsPath (Subclass c s) = (c < 2 ^ 8) × (s < 2 ^ 8)
IsPath (ProgIf c s p) = (c < 2 ^ 8) × (s < 2 ^ 8) × (p < 2 ^ 8)
IsPath (Generic v d) = (v < 2 ^ 16) × (d < 2 ^ 16)

-- the prefix of a path's text: PC for vendors and below, PD for classes and below, PS for generic
-- subsystems
abbrev pub front_of : Path → List ℕ
front_of (Vendor v) = codes "PC"
front_of (Device v d) = codes "PC"
front_of (Subsystem v d s e) = codes "PC"
front_of (Class c) = codes "PD"
front_of (Subclass c s) = codes "PD"
front_of (ProgIf c s p) = codes "PD"
front_of (Generic v d) = codes "PS"

-- the digits of each part after the prefix
abbrev pub parts_of : Path → List (List ℕ)
parts_of (Vendor v) = hex4 v ∷ []
parts_of (Device v d) = hex4 v ∷ hex4 d ∷ []
parts_of (Subsystem v d s e) = hex4 v ∷ hex4 d ∷ (hex4 s ++ hex4 e) ∷ []
parts_of (Class c) = hex2 c ∷ []
parts_of (Subclass c s) = hex2 c ∷ hex2 s ∷ []
parts_of (ProgIf c s p) = hex2 c ∷ hex2 s ∷ hex2 p ∷ []
parts_of (Generic v d) = hex4 v ∷ hex4 d ∷ []

-- each part after a slash
abbrev pub slashed : List (List ℕ) → List ℕ
slashed [] = []
slashed (part ∷ parts) = 47 ∷ part ++ slashed parts

-- the text of a path: PC/8086, PC/8086/1237, PC/8086/1237/1af41100, PD/01, PD/01/01, PD/01/01/80,
-- PS/1af4/1100
abbrev pub path_text : Path → List ℕ
path_text path = front_of path ++ slashed (parts_of path)

-- the text is the path's
pub record IsTextOf (text : List ℕ) (path : Path) : Type 0 where
  pub in_range : IsPath path
  pub same : text ≡ path_text path

-- the path without its last part; a generic subsystem belongs to its vendor
abbrev pub parent_of : Path → Option Path
parent_of (Vendor v) = None
parent_of (Device v d) = Some (Vendor v)
parent_of (Subsystem v d s e) = Some (Device v d)
parent_of (Class c) = None
parent_of (Subclass c s) = Some (Class c)
parent_of (ProgIf c s p) = Some (Subclass c s)
parent_of (Generic v d) = Some (Vendor v)
