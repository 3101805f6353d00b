-- Proofs alone, no definitions: reads of a reader, one after another.
use Rattle.std.proofs.Common.{ℕ, ◌+◌, List, [], ◌∷◌, ◌++◌, Option, Some, None}
use Rattle.std.proofs.Common.{refl, sym, ap, subst, ◌∙◌, append_assoc, length-append, arith}
use Rattle.std.proofs.KnownBytes.{Consumes-nil, Consumes-trans}
use Rattle.std.proofs.lemmas.List.{append-nil}
use Rattle.pid_ident.specs.Moments.{Moment}
use Rattle.pid_ident.specs.Reads.{ReaderState, AddsMoments, AreNoted, AreReads}

all_then : (n : ℕ) (a b c : Option (List ℕ)) (xs ys : List Moment) → AreNoted 0 a xs b
    → AreNoted n b ys c → AreNoted n a (xs ++ ys) c
all_then n a b c [] ys same q = subst (λ (o : Option (List ℕ)). AreNoted n o ys c) (sym same) q
all_then n a b c (x ∷ xs) ys (next, here, some, p) q = (
  next,
  here,
  λ h. some (omega arith),
  all_then n next b c xs ys p q,
)

none_noted : (n : ℕ) (come : Option (List ℕ)) (ms : Option (List Moment))
    → AddsMoments 0 (λ later. AreNoted n come later come) ms ms
none_noted n come None = tt
none_noted n come (Some ms) = ([], sym (append-nil ms), refl, refl)

noted_then : (made more n : ℕ) (a b c : Option (List ℕ)) (x y z : Option (List Moment))
    → AddsMoments made (λ ms. AreNoted 0 a ms b) x y
    → AddsMoments more (λ ms. AreNoted n b ms c) y z
    → AddsMoments (made + more) (λ ms. AreNoted n a ms c) x z
noted_then made more n a b c x y None p q = tt
noted_then made more n a b c x None (Some now) p q = absurd q
noted_then made more n a b c None (Some ms) (Some now) p q = absurd p
noted_then made more n a b c (Some first) (Some ms) (Some now) (xs, e, m, p) (ys, f, k, q) = (
  xs ++ ys,
  f ∙ ap (λ (l : List Moment). l ++ ys) e ∙ append_assoc first xs ys,
  length-append xs ys ∙ (λ i. m i + k i),
  all_then n a b c xs ys p q,
)

pub reads_none : (n : ℕ) (a : ReaderState) → AreReads 0 n a a
reads_none n a = record {
  most = omega arith;
  counted = λ h. omega arith;
  brought = [];
  consumed = Consumes-nil a.come;
  some = omega arith;
  noted = none_noted n a.come a.moments;
}

-- reads that brought something each, and then others
pub reads_then : (made more n : ℕ) (a b c : ReaderState) → AreReads made 0 a b
    → AreReads more n b c → AreReads (made + more) n a c
reads_then made more n a b c p q = record {
  most = omega (arith, p.most, q.most);
  counted = λ h.
      let first = p.counted h in
      let second = q.counted (omega (arith, first)) in
      omega (arith, first, second);
  brought = p.brought ++ q.brought;
  consumed = Consumes-trans a.come b.come c.come p.brought q.brought p.consumed q.consumed;
  some = omega (arith, length-append p.brought q.brought, p.some, q.some);
  noted = noted_then made more n a.come b.come c.come a.moments b.moments c.moments p.noted q.noted;
}
