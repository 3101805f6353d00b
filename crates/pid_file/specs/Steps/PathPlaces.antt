-- What orders paths without their texts: the letter, and then the numbers; and numbers that are
-- ordered so.
use Rattle.std.specs.Prelude.{◌≡◌, ℕ, ◌+◌, ◌*◌, List, [], ◌∷◌}
use Rattle.pid_file.specs.declared.path.Path.{Path}
use Rattle.pid_file.specs.PathTexts.{IsPath}
use Rattle.pid_file.specs.declared.path.Path.TheVariants.{Vendor, Device, Subsystem, Class, Subclass, ProgIf, Generic}

abbrev pub letter_of : Path → ℕ
letter_of (Vendor v) = 67
letter_of (Device v d) = 67
letter_of (Subsystem v d s e) = 67
letter_of (Class c) = 68
letter_of (Subclass c s) = 68
letter_of (ProgIf c s p) = 68
letter_of (Generic v d) = 83

abbrev pub numbers_of : Path → List ℕ
numbers_of (Vendor v) = v ∷ []
numbers_of (Device v d) = v ∷ d ∷ []
numbers_of (Subsystem v d s e) = v ∷ d ∷ s ∷ e ∷ []
numbers_of (Class c) = c ∷ []
numbers_of (Subclass c s) = c ∷ s ∷ []
numbers_of (ProgIf c s p) = c ∷ s ∷ p ∷ []
numbers_of (Generic v d) = v ∷ d ∷ []

-- the letter and the first number, as one number
abbrev pub path_head : Path → ℕ
path_head (Vendor v) = 67 * 131072 + v
path_head (Device v d) = 67 * 131072 + v
path_head (Subsystem v d s e) = 67 * 131072 + v
path_head (Class c) = 68 * 131072 + c
path_head (Subclass c s) = 68 * 131072 + c
path_head (ProgIf c s p) = 68 * 131072 + c
path_head (Generic v d) = 83 * 131072 + v

-- the numbers after the first, of which there are at most three, as one number: each has 17 bits
-- and counts from one, and a missing one is zero
abbrev pub path_rest : Path → ℕ
path_rest (Vendor v) = 0
path_rest (Device v d) = (d + 1) * 17179869184
path_rest (Subsystem v d s e) = (d + 1) * 17179869184 + (s + 1) * 131072 + (e + 1)
path_rest (Class c) = 0
path_rest (Subclass c s) = (s + 1) * 17179869184
path_rest (ProgIf c s p) = (s + 1) * 17179869184 + (p + 1) * 131072
path_rest (Generic v d) = (d + 1) * 17179869184

-- the whole path as one number
abbrev pub path_key : Path → ℕ
path_key path = path_head path * 18446744073709551616 + path_rest path

-- the path is in range, and the number is what a path has so
pub record IsNumberOf (number_of : Path → ℕ) (path : Path) (number : ℕ) : Type 0 where
  pub in_range : IsPath path
  pub is : number ≡ number_of path
