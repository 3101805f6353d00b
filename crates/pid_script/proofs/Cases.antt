-- The two cases of a result.
use Rattle.std.proofs.Common.{◌≡◌, Result, Ok, Err, sym}
use Rattle.std.specs.Prelude.{IfOk, IfErr}

pub is_ok : {X E : Type 0} (r s : Result X E) → r ≡ s → IfOk r (λ x. s ≡ Ok x)
is_ok (Ok x) s h = sym h
is_ok (Err e) s h = tt

pub is_err : {X E : Type 0} (C : E → Type 0) (r s : Result X E) → r ≡ s → IfErr r (λ e. C e → s ≡ Err e)
is_err C (Ok x) s h = tt
is_err C (Err e) s h = λ _. sym h
