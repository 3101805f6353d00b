-- Steps of Moments.
use Rattle.std.specs.Prelude.{◌≡◌, ℕ, List, [], ◌∷◌, ◌++◌, Option, Some, None}
use Rattle.pid_ident.specs.Moments.{Moment}

-- An account has one moment more, the last one, with this to come and this taken. If none is kept
-- any more nothing is said.
abbrev pub IsNoted : (to_come taken : Option (List ℕ)) → (earlier now : Option (List Moment))
    → Type 0
IsNoted to_come taken earlier None = Unit {0}
IsNoted to_come taken None (Some now) = ⊥
IsNoted to_come taken (Some earlier) (Some now) =
    now ≡ earlier ++ (record { to_come = to_come; taken = taken }) ∷ []
