-- The first check that fails, as a loop finds it, and in joined lists of checks.
use Rattle.std.proofs.Common.{◌≡◌, ℕ, ◌+◌, ◌<◌, Bool, true, false, cond, List, [], ◌∷◌, ◌++◌, length, drop, get_or, Option, Some, None, refl, ap, ◌∙◌}
use Rattle.std.specs.Prelude.{find}
use Rattle.std.specs.Option.{option_map, option_or}
use Rattle.std.proofs.lemmas.List.{at_drop_more}
use Rattle.pid_moderation.specs.declared.refusal.Refusal.{Refusal}
use Rattle.pid_moderation.specs.CheckTables.{Checks, first_failing}

abbrev refusal_in : Option (Bool × Refusal) → Option Refusal
refusal_in o = option_map (λ c. c.1) o

passed : (c : Bool × Refusal) (cs : Checks) → c.0 ≡ false → first_failing (c ∷ cs) ≡ first_failing cs
passed c cs e = ap (λ b. refusal_in (cond b (Some c) (find (λ c. c.0) cs))) e

failed : (c : Bool × Refusal) (cs : Checks) → c.0 ≡ true → first_failing (c ∷ cs) ≡ Some c.1
failed c cs e = ap (λ b. refusal_in (cond b (Some c) (find (λ c. c.0) cs))) e

pub skips : (cs : Checks) (i : ℕ) (d : Bool × Refusal) → i < length cs → (get_or cs i d).0 ≡ false → first_failing cs ≡ first_failing (drop i cs) → first_failing cs ≡ first_failing (drop (i + 1) cs)
skips cs i d within e h = h ∙ at_drop_more first_failing cs i d within ∙ passed (get_or cs i d) (drop (i + 1) cs) e

pub stops : (cs : Checks) (i : ℕ) (d : Bool × Refusal) → i < length cs → (get_or cs i d).0 ≡ true → first_failing cs ≡ first_failing (drop i cs) → first_failing cs ≡ Some (get_or cs i d).1
stops cs i d within e h = h ∙ at_drop_more first_failing cs i d within ∙ failed (get_or cs i d) (drop (i + 1) cs) e

either : (b : Bool) (c : Bool × Refusal) (xs ys zs : Option (Bool × Refusal)) → refusal_in xs ≡ option_or (refusal_in ys) (refusal_in zs) → refusal_in (cond b (Some c) xs) ≡ option_or (refusal_in (cond b (Some c) ys)) (refusal_in zs)
either true c xs ys zs e = refl
either false c xs ys zs e = e

pub joined : (xs ys : Checks) → first_failing (xs ++ ys) ≡ option_or (first_failing xs) (first_failing ys)
joined [] ys = refl
joined (c ∷ xs) ys = either c.0 c _ (find (λ c. c.0) xs) (find (λ c. c.0) ys) (joined xs ys)
