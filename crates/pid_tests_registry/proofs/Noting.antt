-- One more moment of an account.
use Rattle.std.proofs.Common.{◌≡◌, ℕ, Bool, true, false, List, [], ◌∷◌, ◌++◌, Some, None, ap, ◌∙◌}
use Rattle.std.specs.Prelude.{map, if◌then◌else◌}
use Rattle.std.proofs.lemmas.List.{map-append}
use Rattle.pid_ident.specs.Steps.Moments.{IsNoted}
use Rattle.pid_tests_registry.specs.Accounts.{moment_of}
use Rattle.pid_tests_registry.specs.declared.serving.account.Kept.{Kept}

pub noted : (lost : Bool) (old new : List Kept) (kept : Kept) (bytes : List ℕ) → new ≡ old ++ kept ∷ [] → kept.taken.items ≡ bytes
    → IsNoted (Some kept.to_come.now) (Some bytes) (if lost then None else Some (map moment_of old)) (if lost then None else Some (map moment_of new))
noted true old new kept bytes e same = tt
noted false old new kept bytes e same = ap (map moment_of) e ∙ map-append moment_of old (kept ∷ []) ∙ ap (λ (l : List ℕ). map moment_of old ++ (record { to_come = Some kept.to_come.now; taken = Some l }) ∷ []) same
