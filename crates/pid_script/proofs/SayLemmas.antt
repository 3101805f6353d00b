-- One text said behind another.
use Rattle.std.proofs.Common.{◌≡◌, ◌≤◌, ℕ, ◌+◌, List, [], ◌++◌, length, take, Option, Some, None, Result, Ok, Err, refl, inl, sym, ap, subst, ◌∙◌, append_assoc, arith}
use Rattle.std.proofs.lemmas.List.{append-nil, length-append, take-append-le}
use Rattle.std.proofs.Math.Seq.{take-append-add}
use Rattle.std.specs.Io.KnownBytes.{Appends}
use Rattle.std.specs.Prelude.{IsSome, OnOk}
use Rattle.pid_file.specs.declared.io.WriteFault.{WriteFault as OutputFault}
use Rattle.pid_ident.specs.Sending.{SendsFront}
use Rattle.pid_moderation.specs.declared.refusal.Refusal.{Refusal}
use Rattle.pid_script.specs.declared.line_end.LineEnd.{LineEnd}
use Rattle.pid_script.specs.declared.line_end.LineEnd.TheVariants.{Stopped, WriteFault, TooLong}
use Rattle.pid_script.specs.Steps.Output.{MOST_HELD, Out, HasSaid, SaysFront, SaysText, GoesOut, TellsLine, IsGivenStop}

pub Appends-nil : (a : Option (List ℕ)) → Appends a a []
Appends-nil None = tt
Appends-nil (Some x) = sym (append-nil x)

pub Appends-then : (a b c : Option (List ℕ)) (x y : List ℕ) → Appends a b x → Appends b c y → Appends a c (x ++ y)
Appends-then None b c x y p q = tt
Appends-then (Some a) None c x y p q = absurd p
Appends-then (Some a) (Some b) None x y p q = absurd q
Appends-then (Some a) (Some b) (Some c) x y p q = q ∙ ap (λ (l : List ℕ). l ++ y) p ∙ append_assoc a x y

-- what was written before, and a front of what follows
pub front-then : (a b c : Option (List ℕ)) (x y : List ℕ) → Appends a b x → SendsFront b c y → SendsFront a c (x ++ y)
front-then a b c x y p (n, less, q) = (length x + n, omega (arith, length-append x y, less), subst (Appends a c) (sym (take-append-add x y n)) (Appends-then a b c x (take n y) p q))

-- a fault before the end of the first part
pub front-before : (a c : Option (List ℕ)) (y z : List ℕ) → SendsFront a c y → SendsFront a c (y ++ z)
front-before a c y z (n, less, q) = (n, omega (arith, length-append y z, less), subst (Appends a c) (sym (take-append-le n y z (omega (arith, less)))) q)

-- nothing goes out, and the text is held
pub held : (old new : Out) (text : List ℕ) → new.taken ≡ old.taken → new.held ≡ old.held ++ text → (length old.held ≤ MOST_HELD → length new.held ≤ MOST_HELD) → HasSaid old new text
held old new text same is room = record { sent = []; told = subst (λ (t : Option (List ℕ)). Appends old.taken t []) (sym same) (Appends-nil old.taken); rest = sym is; room = room }

pub none_fits : (now : List ℕ) → now ≡ [] → length now ≤ MOST_HELD
none_fits now none = subst (λ (l : List ℕ). length l ≤ MOST_HELD) (sym none) (omega arith)

-- all goes out, so that nothing is held
pub all_out : (old new : Out) (text : List ℕ) → new.held ≡ [] → Appends old.taken new.taken (old.held ++ text) → HasSaid old new text
all_out old new text none told = record { sent = old.held ++ text; told = told; rest = sym (ap (λ (l : List ℕ). (old.held ++ text) ++ l) none ∙ append-nil (old.held ++ text)); room = λ _. none_fits new.held none }

-- what was held goes out, and then the text
pub out_then : (old : Out) (mid : Option (List ℕ)) (new : Out) (text : List ℕ) → new.held ≡ [] → Appends old.taken mid old.held → Appends mid new.taken text → HasSaid old new text
out_then old mid new text none p q = all_out old new text none (Appends-then old.taken mid new.taken old.held text p q)

-- one text and then another
pub says_then : (a b c : Out) (x y : List ℕ) → HasSaid a b x → HasSaid b c y → HasSaid a c (x ++ y)
says_then a b c x y p q = record {
  sent = p.sent ++ q.sent;
  told = Appends-then a.taken b.taken c.taken p.sent q.sent p.told q.told;
  rest = sym (append_assoc a.held x y) ∙ ap (λ (l : List ℕ). l ++ y) p.rest ∙ append_assoc p.sent b.held y ∙ ap (λ (l : List ℕ). p.sent ++ l) q.rest ∙ sym (append_assoc p.sent q.sent c.held);
  room = λ less. q.room (p.room less);
}

-- one text, and a front of another
pub front_behind : (a b c : Out) (x y : List ℕ) → HasSaid a b x → SaysFront b c y → SaysFront a c (x ++ y)
front_behind a b c x y p q = (
  subst (SendsFront a.taken c.taken) (sym (append_assoc p.sent b.held y) ∙ ap (λ (l : List ℕ). l ++ y) (sym p.rest) ∙ append_assoc a.held x y) (front-then a.taken b.taken c.taken p.sent (b.held ++ y) p.told q.0),
  q.1,
)

-- a front of the first
pub front_within : (a c : Out) (x y : List ℕ) → SaysFront a c x → SaysFront a c (x ++ y)
front_within a c x y q = (subst (SendsFront a.taken c.taken) (append_assoc a.held x y) (front-before a.taken c.taken (a.held ++ x) y q.0), q.1)

-- what was held went out, and the text is sent behind it
pub sent_after : (r : Result (Unit {0}) LineEnd) (old mid new bare : Out) (text : List ℕ) → Appends old.taken mid.taken old.held → new.held ≡ [] → bare.taken ≡ new.taken → bare.fault ≡ new.fault → GoesOut r mid bare text → SaysText r old new text
sent_after (Ok x) old mid new bare text went none same kept sends = out_then old mid.taken new text none went (subst (λ (t : Option (List ℕ)). Appends mid.taken t text) same sends.0)
sent_after (Err e) old mid new bare text went none same kept sends = (
  sends.0,
  (
    front-then old.taken mid.taken new.taken old.held text went (subst (λ (t : Option (List ℕ)). SendsFront mid.taken t text) same sends.1),
    subst (λ (f : Option OutputFault). IsSome f) kept sends.2,
  ),
)

-- one text was said, and another is
pub said_more : (r : Result (Unit {0}) LineEnd) (a b c : Out) (x y : List ℕ) → HasSaid a b x → SaysText r b c y → SaysText r a c (x ++ y)
said_more (Ok u) a b c x y p q = says_then a b c x y p q
said_more (Err e) a b c x y p q = (q.0, front_behind a b c x y p q.1)

-- a text was said, and all that is held is sent
pub said_out : (r : Result (Unit {0}) LineEnd) (a b c : Out) (x : List ℕ) → HasSaid a b x → GoesOut r b c b.held → GoesOut r a c (a.held ++ x)
said_out (Ok u) a b c x p q = (subst (Appends a.taken c.taken) (sym p.rest) (Appends-then a.taken b.taken c.taken p.sent b.held p.told q.0), q.1)
said_out (Err e) a b c x p q = (q.0, subst (SendsFront a.taken c.taken) (sym p.rest) (front-then a.taken b.taken c.taken p.sent b.held p.told q.1), q.2)

-- not all of what is held went out
pub unsent_front : (old new : Option (List ℕ)) (was now text : List ℕ) → now ≡ was → SendsFront old new now → SendsFront old new (was ++ text)
unsent_front old new was now text same front = front-before old new was text (subst (SendsFront old new) same front)

-- a text was said, or not
pub tells_said : (r : Result (Unit {0}) LineEnd) (given : Option Refusal) (reply : List ℕ) (old new : Out) → SaysText r old new reply → TellsLine r reply (IsGivenStop given) old new
tells_said (Ok x) given reply old new p = p
tells_said (Err Stopped) given reply old new p = let bad : Stopped ≡ WriteFault = p.0 in absurd cc
tells_said (Err WriteFault) given reply old new p = record { text = reply; is = inl refl; front = p.1 }
tells_said (Err TooLong) given reply old new p = let bad : TooLong ≡ WriteFault = p.0 in absurd cc

-- a fault of the writer is kept
pub tells_fault : (r : Result (Unit {0}) LineEnd) (reply : List ℕ) (IsStop : List ℕ → Type 0) (old new : Out) → TellsLine r reply IsStop old new → r ≡ Err WriteFault → IsSome new.fault
tells_fault (Ok x) reply IsStop old new t is = absurd cc
tells_fault (Err Stopped) reply IsStop old new t is = absurd cc
tells_fault (Err WriteFault) reply IsStop old new t is = t.front.1
tells_fault (Err TooLong) reply IsStop old new t is = absurd cc

pub says_fault : (r : Result (Unit {0}) LineEnd) (text : List ℕ) (old new : Out) → SaysText r old new text → r ≡ Err WriteFault → IsSome new.fault
says_fault (Ok x) text old new t is = absurd cc
says_fault (Err e) text old new t is = t.1.1

pub sends_fault : (r : Result (Unit {0}) LineEnd) (text : List ℕ) (old new : Out) → GoesOut r old new text → r ≡ Err WriteFault → IsSome new.fault
sends_fault (Ok x) text old new t is = absurd cc
sends_fault (Err e) text old new t is = t.2

pub sends_empty : (r : Result (Unit {0}) LineEnd) (text : List ℕ) (old new : Out) → GoesOut r old new text → OnOk r (new.held ≡ [])
sends_empty (Ok x) text old new t = t.1
sends_empty (Err e) text old new t = tt
