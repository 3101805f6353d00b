-- Proofs alone, no definitions: the laws that the reader of a body has for `stays` and `joins` of
-- `Input`.
use Rattle.std.proofs.Common.{◌≡◌, ℕ, ◌+◌, List, [], ◌++◌, Option, Some, None, refl, sym, ap, ◌∙◌}
use Rattle.std.proofs.Common.{append_assoc, length, length-append, arith, subst, inl, inr}
use Rattle.std.specs.Prelude.{◌⊎◌, IsSome}
use Rattle.std.proofs.lemmas.List.{append-nil}
use Rattle.std.proofs.KnownBytes.{Consumes-nil, Consumes-trans}
use Rattle.pid_file.specs.declared.io.ReadFault.{ReadFault as ReaderFault}
use Rattle.pid_file.specs.Steps.InputCalls.{StaysKept}
use Rattle.pid_http_stream.specs.Steps.Bodies.{Turns, SpendsTurns, BodyState, IsWithinBody, HasReadBody}
use Rattle.pid_http_stream.specs.Steps.Bodies.{idle_at}
use Rattle.pid_ident.specs.Steps.MomentLaws.{since_none, since_then, since_so}
use Rattle.pid_http_stream.specs.Moments.{Moment}
use Rattle.pid_ident.specs.Steps.ReadLaws.{reads_none, reads_then}
use Rattle.pid_http_stream.specs.declared.body_input.BodyFault.{BodyFault}
use Rattle.pid_http_stream.specs.declared.body_input.BodyFault.TheVariants.{ReadFault}

-- no read costs nothing
pub no_turns : (n : ℕ) (a : Turns) → SpendsTurns n a a
no_turns n a = record { made = 0; spent = omega arith; reads = reads_none n a.reader }

-- reads that brought something each and then others are reads
pub more_turns : (n : ℕ) (a b c : Turns) → SpendsTurns 0 a b → SpendsTurns n b c
    → SpendsTurns n a c
more_turns n a b c p q = record {
  made = p.made + q.made;
  spent = omega (arith, p.spent, q.spent);
  reads = reads_then p.made q.made n a.reader b.reader c.reader p.reads q.reads;
}

-- a fault is kept if nothing is done
pub stays_kept : (f : Option BodyFault) → StaysKept f f
stays_kept None = tt
stays_kept (Some f) = refl

kept_then : (f g h : Option BodyFault) → StaysKept f g → StaysKept g h → StaysKept f h
kept_then None g h p q = tt
kept_then (Some x) None h p q = absurd cc
kept_then (Some x) (Some y) h p q = q ∙ p

-- with a fault it is read no more
turns_then : (f g : Option BodyFault) (a b c : Turns) → StaysKept f g → (IsSome f → c ≡ b)
    → SpendsTurns (idle_at f) a b → SpendsTurns (idle_at g) b c → SpendsTurns (idle_at g) a c
turns_then None g a b c kept unread p q = more_turns (idle_at g) a b c p q
turns_then (Some f) g a b c kept unread p q =
    subst (λ (h : Option BodyFault). SpendsTurns (idle_at h) a c) (sym kept)
    (subst (λ (t : Turns). SpendsTurns (idle_at (Some f)) a t) (sym (unread refl)) p)

some_then : (f g : Option BodyFault) → StaysKept f g → IsSome f → IsSome g
some_then None g kept some = absurd cc
some_then (Some f) g kept some = subst IsSome (sym kept) refl

-- the reader under it failed in the first reads or in the others
failed_then : (a b c : Option ReaderFault) (f g : Option BodyFault) → (b ≡ a) ⊎ (f ≡ Some ReadFault)
    → (c ≡ b) ⊎ (g ≡ Some ReadFault) → StaysKept f g → (c ≡ a) ⊎ (g ≡ Some ReadFault)
failed_then a b c f g p (inr e) s = inr e
failed_then a b c f g (inl d) (inl e) s = inl (e ∙ d)
failed_then a b c f g (inr d) (inl e) s = inr
    (subst (λ (k : Option BodyFault). StaysKept k g) d s)

-- no read leaves the reader of a body as it is
pub no_body_reads : (s : BodyState) → HasReadBody s s
no_body_reads s = record {
  used = [];
  came = [];
  consumed = Consumes-nil s.turns.reader.come;
  given = append-nil s.held;
  counted = omega arith;
  turns = no_turns (idle_at s.fault) s.turns;
  unread = λ h. refl;
  fault = stays_kept s.fault;
  caused = λ h. h;
  failed = inl refl;
  taken = refl;
  moments = since_none (IsWithinBody s) s.turns.reader.moments;
}

within_first : (a b c : BodyState) → HasReadBody a b → (m : Moment) → IsWithinBody b m
    → IsWithinBody a m
within_first a b c p m x = record {
  came = p.came ++ x.came;
  consumed = Consumes-trans a.turns.reader.come b.turns.reader.come m.to_come p.came x.came
      p.consumed x.consumed;
  wants =
      let given : length a.held + length p.came
      ≡ length p.used + length b.held = sym
      (length-append a.held p.came) ∙ ap length p.given ∙ length-append p.used b.held in
      omega (arith, given, p.counted, x.wants, length-append p.came x.came);
  taken = x.taken ∙ p.taken;
}

-- some reads of a body and then others are reads of it
pub more_body_reads : (a b c : BodyState) → HasReadBody a b → HasReadBody b c → HasReadBody a c
more_body_reads a b c p q = record {
  used = p.used ++ q.used;
  came = p.came ++ q.came;
  consumed = Consumes-trans a.turns.reader.come b.turns.reader.come c.turns.reader.come p.came
      q.came p.consumed q.consumed;
  given = sym (append_assoc a.held p.came q.came) ∙ ap
      (λ (l : List ℕ). l ++ q.came) p.given ∙ append_assoc p.used b.held q.came ∙ ap
      (λ (l : List ℕ). p.used ++ l) q.given ∙ sym (append_assoc p.used q.used c.held);
  counted = omega (arith, length-append p.used q.used, p.counted, q.counted);
  turns = turns_then b.fault c.fault a.turns b.turns c.turns q.fault q.unread p.turns q.turns;
  unread = λ h. q.unread (some_then a.fault b.fault p.fault h) ∙ p.unread h;
  fault = kept_then a.fault b.fault c.fault p.fault q.fault;
  caused = λ h. q.caused (p.caused h);
  failed = failed_then a.turns.reader.fault b.turns.reader.fault
      c.turns.reader.fault b.fault c.fault p.failed q.failed q.fault;
  taken = q.taken ∙ p.taken;
  moments = since_then (IsWithinBody a) a.turns.reader.moments b.turns.reader.moments
      c.turns.reader.moments p.moments (since_so (IsWithinBody b) (IsWithinBody a)
      b.turns.reader.moments c.turns.reader.moments (within_first a b c p) q.moments);
}
