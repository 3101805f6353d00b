-- Steps of Columns.
use Rattle.std.specs.Prelude.{◌≡◌, ◌<◌, ℕ, zero, suc, Bool, true, false, ◌&&◌, List, [], ◌∷◌, map, take, drop}
use Rattle.std.specs.Char.{to_ascii_lowercase}
use Rattle.pid_file.specs.Columns.{is_hex, begins_with_id}

-- n hex digits
abbrev pub are_digits : ℕ → List ℕ → Bool
are_digits zero bytes = true
are_digits (suc n) [] = false
are_digits (suc n) (b ∷ bs) = is_hex b && are_digits n bs

-- bytes that begin with so many hex digits: their number, which is below a bound, and the rest
pub record SaysNumber (width bound : ℕ) (say : ℕ → List ℕ) (bytes : List ℕ) (number : ℕ) (rest : List ℕ) : Type 0 where
  pub small : number < bound
  pub digits : are_digits width bytes ≡ true
  pub says : map to_ascii_lowercase (take width bytes) ≡ say number
  pub after : rest ≡ drop width bytes

-- the same, with a blank after the digits, which is not part of the rest
pub record IsId (width bound : ℕ) (say : ℕ → List ℕ) (bytes : List ℕ) (number : ℕ) (rest : List ℕ) : Type 0 where
  pub small : number < bound
  pub begins : begins_with_id width bytes ≡ true
  pub says : map to_ascii_lowercase (take width bytes) ≡ say number
  pub after : rest ≡ drop (suc width) bytes
