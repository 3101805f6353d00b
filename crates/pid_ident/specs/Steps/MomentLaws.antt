-- Proofs alone, no definitions: accounts of the moments at which a reader was read, one after
-- another.
use Rattle.std.proofs.Common.{List, [], ◌++◌, Option, Some, None, sym, ap, ◌∙◌, append_assoc}
use Rattle.std.proofs.lemmas.List.{append-nil}
use Rattle.std.proofs.lemmas.List.Elements.{All-nil, All-append}
use Rattle.pid_ident.specs.Moments.{Moment, AllSince}

-- nothing was read
pub since_none : (P : Moment → Type 0) (a : Option (List Moment)) → AllSince P a a
since_none P None = tt
since_none P (Some ms) = ([], sym (append-nil ms), All-nil P)

-- some reads and then others
pub since_then : (P : Moment → Type 0) (a b c : Option (List Moment)) → AllSince P a b
    → AllSince P b c → AllSince P a c
since_then P a b None p q = tt
since_then P a None (Some now) p q = absurd q
since_then P None (Some ms) (Some now) p q = absurd p
since_then P (Some first) (Some ms) (Some now) (later, e, all) (last, f, most) = (
  later ++ last,
  f ∙ ap (λ (l : List Moment). l
      ++ last) e ∙ append_assoc first later last,
  All-append P later last all most,
)

-- what follows of each moment
pub since_so : (P Q : Moment → Type 0) (a b : Option (List Moment)) → ((m : Moment) → P m → Q m)
    → AllSince P a b → AllSince Q a b
since_so P Q a None f p = tt
since_so P Q None (Some now) f p = absurd p
since_so P Q (Some first) (Some now) f (later, e, all) = (later, e, λ k d h. f _ (all k d h))
