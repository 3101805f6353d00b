-- Steps of SeenPaths.
use Rattle.std.specs.Prelude.{◌≡◌, ℕ, Bool, true, List, ◌==◌, if◌then◌else◌}
use Rattle.pid_file.specs.SeenPaths.{has_flag}

-- the flags with one more
abbrev pub IsOneMoreFlag : List Bool → ℕ → List Bool → Type 0
IsOneMoreFlag old n new = (m : ℕ) → has_flag new m ≡ (if n == m then true else has_flag old m)
