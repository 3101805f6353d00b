use Rattle.std.proofs.Common.{◌≡◌, ℕ, zero, suc, ◌+◌, List, [], ◌∷◌, ◌++◌, take, drop, refl, sym, ap, ◌∙◌, arith}
use Rattle.pid_moderation.specs.RemarkPages.{remarks_from}
use Rattle.pid_moderation.specs.Views.{Remark}
use Rattle.pid_moderation.proofs.laws.remarks_go_on.Goals as goal

dropped_on : {X : Type 0} (m n : ℕ) (xs : List X) → drop (m + n) xs ≡ drop n (drop m xs)
dropped_on zero n xs = ap (λ k. drop k xs) (let none : 0 + n ≡ n = omega arith in none)
dropped_on (suc m) zero [] = let more : suc m + 0 ≡ suc m = omega arith in ap (λ k. drop k []) more
dropped_on (suc m) (suc n) [] = let more : suc m + suc n ≡ suc (m + suc n) = omega arith in ap (λ k. drop k []) more
dropped_on (suc m) n (x ∷ xs) = let more : suc m + n ≡ suc (m + n) = omega arith in ap (λ k. drop k (x ∷ xs)) more ∙ dropped_on m n xs

joined : (place most : ℕ) (remarks : List Remark) → take most (remarks_from place remarks) ++ remarks_from (place + most) (drop most remarks) ≡ remarks_from place remarks
joined place zero remarks = let same : place + 0 ≡ place = omega arith in ap (λ k. remarks_from k remarks) same
joined place (suc most) [] = refl
joined place (suc most) (remark ∷ remarks) =
    let more : place + suc most ≡ (place + 1) + most = omega arith in
    ap (λ l. (place, remark) ∷ l) (ap (λ k. take most (remarks_from (place + 1) remarks) ++ remarks_from k (drop most remarks)) more ∙ joined (place + 1) most remarks)

pub returns : goal.returns
returns c most after remarks =
    let place : (after + most) + 1 ≡ (after + 1) + most = omega arith in
    (λ i. take most (remarks_from (after + 1) (drop after remarks)) ++ remarks_from (place i) (dropped_on after most remarks i)) ∙ joined (after + 1) most (drop after remarks)
