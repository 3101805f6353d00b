-- Proofs alone, no definitions: the laws that the readers of this crate have for `stays` and
-- `joins` of `Input`. No reads leave a reader as it is, and some reads and then others are reads.
use Rattle.std.proofs.Common.{ℕ, List, [], ◌++◌, Option, Some, None, refl, sym, ap, ◌∙◌, append_assoc, arith}
use Rattle.pid_file.specs.Steps.InputCalls.{HasUsed, StaysKept, HasReadOn, HasNoMore}

used_none : (a : Option (List ℕ)) → HasUsed a a
used_none None = ([], tt)
used_none (Some x) = ([], refl)

used_then : (a b c : Option (List ℕ)) → HasUsed a b → HasUsed b c → HasUsed a c
used_then None b c p q = ([], tt)
used_then (Some x) None c p q = absurd p.1
used_then (Some x) (Some y) None p q = absurd q.1
used_then (Some x) (Some y) (Some z) p q =
    (p.0 ++ q.0, p.1 ∙ ap (λ (l : List ℕ). p.0 ++ l) q.1 ∙ sym (append_assoc p.0 q.0 z))

fault_stays : {F : Type 0} (a : Option F) → StaysKept a a
fault_stays None = tt
fault_stays (Some f) = refl

fault_then : {F : Type 0} (a b c : Option F) → StaysKept a b → StaysKept b c → StaysKept a c
fault_then None b c p q = tt
fault_then (Some f) None c p q = absurd cc
fault_then (Some f) (Some g) c p q = q ∙ p

pub no_reads : {F : Type 0} (a : Option (List ℕ)) (f : Option F) (n : ℕ) → HasReadOn a a f f n n
no_reads a f n = record { bytes = used_none a; fault = fault_stays f; count = omega arith }

pub more_reads : {F : Type 0} (a b c : Option (List ℕ)) (f g h : Option F) (k m n : ℕ)
    → HasReadOn a b f g k m → HasReadOn b c g h m n → HasReadOn a c f h k n
more_reads a b c f g h k m n p q = record {
  bytes = used_then a b c p.bytes q.bytes;
  fault = fault_then f g h p.fault q.fault;
  count = omega
      (arith, p.count, q.count);
}

pub no_more_stays : (a : Option ℕ) → HasNoMore a a
no_more_stays None = refl
no_more_stays (Some n) = omega arith

pub no_more_then : (a b c : Option ℕ) → HasNoMore a b → HasNoMore b c → HasNoMore a c
no_more_then None None c p q = q
no_more_then None (Some m) c p q = absurd cc
no_more_then (Some n) None c p q = absurd p
no_more_then (Some n) (Some m) None p q = absurd q
no_more_then (Some n) (Some m) (Some k) p q = omega (arith, p, q)
