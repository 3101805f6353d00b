-- What one read of a body leaves of it.
use Rattle.std.proofs.Common.{◌≡◌, ℕ, zero, suc, ◌+◌, ◌-◌, ◌^◌, ◌<◌, ◌≤◌, List, [], ◌∷◌, ◌++◌, length, take, Option, Some, None, Result, Ok, Err, refl, sym, ap, subst, ◌∙◌, append_assoc, arith, inl, inr}
use Rattle.std.specs.Prelude.{◌⊎◌, option_map, min, IfOk, IfSome, IsSome, is_some, is_ok, is_err, true, false, if◌then◌else◌}
use Rattle.std.specs.Io.KnownBytes.{Consumes, IsAtEnd, Keeps}
use Rattle.std.proofs.KnownBytes.{Consumes-nil, Consumes-trans}
use Rattle.std.proofs.lemmas.List.{take-append-le, length-take-le, take_all, append-nil}
use Rattle.pid_file.specs.Steps.InputCalls.{StaysKept}
use Rattle.pid_file.specs.declared.io.ReadFault.{ReadFault}
use Rattle.pid_file.specs.declared.io.ReadFault.TheVariants.{Device}
use Rattle.pid_http_stream.specs.Steps.Bodies.{padded, kept_fault, Turns, SpendsTurns, BodyState, IsCauseOf, HasBrokenOff, IsFaultCaused, IsWithinBody, HasReadBody, idle_at}
use Rattle.pid_http_stream.specs.Steps.BodyLaws.{no_turns, stays_kept}
use Rattle.pid_ident.specs.Steps.MomentLaws.{since_none, since_so}
use Rattle.pid_http_stream.specs.Moments.{Moment, AllSince}
use Rattle.pid_ident.specs.Steps.Moments.{IsNoted}
use Rattle.pid_http_stream.specs.Reads.{ReaderState}
use Rattle.pid_http_stream.specs.Steps.Intakes.{IsMoment}
use Rattle.pid_http_stream.specs.declared.body_input.BodyFault.{BodyFault}
use Rattle.pid_http_stream.specs.declared.body_input.BodyFault.TheVariants.{ReadFault as TheReadFault}
use Rattle.pid_http_stream.proofs.OneRead.{one_read, last_read, with_idle}

-- bytes given from the front leave the others
padded_front : (piece rest : List ℕ) (w n : ℕ) → length piece ≡ n → n ≤ w → padded w (piece ++ rest) ≡ piece ++ padded (w - n) rest
padded_front [] rest w zero e h = let none : w - 0 ≡ w = omega arith in rw none refl
padded_front [] rest w (suc n) e h = absurd (omega arith)
padded_front (b ∷ piece) rest zero n e h = absurd (omega arith)
padded_front (b ∷ piece) rest (suc w) zero e h = absurd (omega arith)
padded_front (b ∷ piece) rest (suc w) (suc n) e h = let less : suc w - suc n ≡ w - n = omega arith in rw less (ap (λ (l : List ℕ). b ∷ l) (padded_front piece rest w n (omega arith) (omega arith)))

pub whole_padded : (used rest : List ℕ) (w : ℕ) → length used ≡ w → padded w (used ++ rest) ≡ used
whole_padded [] rest zero e = refl
whole_padded [] rest (suc w) e = absurd (omega arith)
whole_padded (b ∷ used) rest zero e = absurd (omega arith)
whole_padded (b ∷ used) rest (suc w) e = ap (λ (l : List ℕ). b ∷ l) (whole_padded used rest w (omega arith))

pub none_wanted : (w : ℕ) (bytes : List ℕ) → padded w bytes ≡ [] → w ≡ 0
none_wanted zero bytes e = refl
none_wanted (suc w) [] e = cc
none_wanted (suc w) (b ∷ bytes) e = cc

pub keeps_same : (o : Option (List ℕ)) → Keeps o o
keeps_same None = tt
keeps_same (Some s) = refl

-- where nothing is wanted, nothing is to come
pub none_left : (known : Option (List ℕ)) (w : ℕ) (held : List ℕ) → w ≡ 0 → IsAtEnd (option_map (λ s. padded w (held ++ s)) known)
none_left None w held e = tt
none_left (Some s) w held e = ap (λ (n : ℕ). padded n (held ++ s)) e

-- of the body as little was read as of the reader under it
pub keeps_padded : (a b : Option (List ℕ)) (w : ℕ) (held : List ℕ) → Consumes a b [] → Keeps (option_map (λ s. padded w (held ++ s)) a) (option_map (λ s. padded w (held ++ s)) b)
keeps_padded None b w held c = tt
keeps_padded (Some s) None w held c = absurd c
keeps_padded (Some s) (Some t) w held c = ap (λ (x : List ℕ). padded w (held ++ x)) (sym c)

pub held_given : (known : Option (List ℕ)) (wanted n : ℕ) (held behind piece got : List ℕ) → held ≡ piece ++ behind → length piece ≡ n → n ≤ wanted → got ≡ piece
    → Consumes (option_map (λ s. padded wanted (held ++ s)) known) (option_map (λ s. padded (wanted - n) (behind ++ s)) known) got
held_given None wanted n held behind piece got e l h g = tt
held_given (Some s) wanted n held behind piece got e l h g =
    ap (λ (x : List ℕ). padded wanted (x ++ s)) e ∙ ap (padded wanted) (append_assoc piece behind s) ∙ padded_front piece (behind ++ s) wanted n l h ∙ ap (λ (x : List ℕ). x ++ padded (wanted - n) (behind ++ s)) (sym g)

pub read_given : (known left : Option (List ℕ)) (wanted n : ℕ) (held piece got : List ℕ) → held ≡ [] → Consumes known left piece → length piece ≡ n → n ≤ wanted → got ≡ piece
    → Consumes (option_map (λ s. padded wanted (held ++ s)) known) (option_map (λ s. padded (wanted - n) (held ++ s)) left) got
read_given None left wanted n held piece got e c l h g = tt
read_given (Some s) None wanted n held piece got e c l h g = absurd c
read_given (Some s) (Some t) wanted n held piece got e c l h g =
    ap (λ (x : List ℕ). padded wanted (x ++ s)) e ∙ ap (padded wanted) c ∙ padded_front piece t wanted n l h ∙ ap (λ (x : List ℕ). x ++ padded (wanted - n) t) (sym g) ∙ ap (λ (x : List ℕ). got ++ padded (wanted - n) (x ++ t)) (sym e)

pub whole_front : (x y : List ℕ) (n : ℕ) → length x ≡ n → take n (x ++ y) ≡ x
whole_front x y n e = take-append-le n x y (omega arith) ∙ take_all n x (omega arith)

pub nothing : (x : List ℕ) → length x ≡ 0 → x ≡ []
nothing [] e = refl
nothing (b ∷ x) e = absurd (omega arith)

pub keeps_nil : (a b : Option (List ℕ)) → Keeps a b → Consumes a b []
keeps_nil None b k = tt
keeps_nil (Some x) None k = absurd k
keeps_nil (Some x) (Some y) k = sym k

pub none_of : {A : Type 0} (o : Option A) → is_some o ≡ false → o ≡ None
none_of None e = refl
none_of (Some x) e = cc

-- a fault that is kept is returned, and returned again
pub some_kept_by : (f : Option BodyFault) → is_some f ≡ true → kept_fault f ≡ Some Device
some_kept_by None e = cc
some_kept_by (Some fault) e = refl

pub none_kept_by : (f : Option BodyFault) → is_some f ≡ false → kept_fault f ≡ None
none_kept_by None e = refl
none_kept_by (Some fault) e = cc

pub keeps_kept : {A : Type 0} (r : Result A ReadFault) (f : Option BodyFault) → r ≡ Err Device → IfSome (kept_fault f) (λ fault. r ≡ Err fault)
keeps_kept r None e = tt
keeps_kept r (Some fault) e = e

pub none_kept : (f : Option BodyFault) (P : ReadFault → Type 0) → is_some f ≡ false → IfSome (kept_fault f) P
none_kept None P e = tt
none_kept (Some fault) P e = cc

-- what holds whatever the result is
pub if_any : {X E : Type 0} (result : Result X E) (P : Type 0) → P → IfOk result (λ _. P)
if_any (Ok x) P p = p
if_any (Err e) P p = tt

pub some_by : {A : Type 0} (o : Option A) (x : A) → o ≡ Some x → IsSome o
some_by None x e = cc
some_by (Some y) x e = refl

-- a read that gave something changes no fault: the reader had none, and has none
pub still_good : {A : Type 0} (x : A) (before now : Option ReadFault) → IfSome before (λ f. Ok x ≡ Err f) → now ≡ None → now ≡ before
still_good x None now kept none = none
still_good x (Some f) now kept none = cc

-- a piece more was read and kept
pub kept_more : {A E : Type 0} (a b c : Option (List ℕ)) (r : Result A E) (x y z : List ℕ) → Consumes a b x → Consumes b c y → z ≡ (if is_ok r then x ++ y else x) → is_err r ≡ false → Consumes a c z
kept_more a b c (Ok v) x y z p q e good = subst (Consumes a c) (sym e) (Consumes-trans a b c x y p q)
kept_more a b c (Err v) x y z p q e good = cc

-- nothing more was read
pub ended : (a b c : Option (List ℕ)) (x buffer : List ℕ) (n : ℕ) → Consumes a b x → Consumes b c (take n buffer) → n ≡ 0 → Consumes a c x
ended a b c x buffer n p q e = subst (Consumes a c) (append-nil x) (Consumes-trans a b c x [] p (subst (λ (k : ℕ). Consumes b c (take k buffer)) e q))

-- what was read up to the end is the whole body
pub all_of_it : (a b : Option (List ℕ)) (x body : List ℕ) → Consumes a b x → IsAtEnd b → a ≡ Some body → body ≡ x
all_of_it None b x body c end e = absurd cc
all_of_it (Some s) None x body c end e = absurd c
all_of_it (Some s) (Some t) x body c end e =
    let same : body ≡ s = cc in
    same ∙ c ∙ ap (λ (l : List ℕ). x ++ l) end ∙ append-nil x

-- ---- what a read leaves, as the states tell it

-- there was no fault before, and there is none now
still_no_fault : (f : Option BodyFault) (s : BodyState) → f ≡ None → s.fault ≡ f → IsFaultCaused s
still_no_fault f s e same = subst (λ (x : Option BodyFault). IfSome x (HasBrokenOff s)) (sym (same ∙ e)) tt

-- some of what was held was given
pub gave_held : (f : Option BodyFault) (turns : Turns) (u : Option (List ℕ)) (wanted n : ℕ) (held behind piece : List ℕ) → f ≡ None → held ≡ piece ++ behind → length piece ≡ n → n ≤ wanted
    → HasReadBody (record { held = held; wanted = wanted; fault = f; turns = turns; taken = u }) (record { held = behind; wanted = wanted - n; fault = f; turns = turns; taken = u })
gave_held f turns u wanted n held behind piece none e l h = record {
  used = piece;
  came = [];
  consumed = Consumes-nil turns.reader.come;
  given = append-nil held ∙ e;
  counted = omega arith;
  turns = no_turns (idle_at f) turns;
  unread = λ some. refl;
  fault = stays_kept f;
  caused = λ t. still_no_fault f (record { held = behind; wanted = wanted - n; fault = f; turns = turns; taken = u }) none refl;
  failed = inl refl;
  taken = refl;
  moments = since_none (IsWithinBody (record { held = held; wanted = wanted; fault = f; turns = turns; taken = u })) turns.reader.moments;
}

pub some_of : (n : ℕ) → ¬ (n ≡ 0) → 0 < n
some_of zero e = absurd (e refl)
some_of (suc n) e = omega arith

pub one_less : (n : ℕ) → ¬ (n ≡ 0) → n - 1 + 1 ≡ n
one_less zero e = absurd (e refl)
one_less (suc n) e = omega arith

-- where no read is idle, so many may be
pub idle_turns : (n : ℕ) (a b : Turns) → SpendsTurns 0 a b → SpendsTurns n a b
idle_turns n a b p = record { made = p.made; spent = p.spent; reads = with_idle p.made n a.reader b.reader p.reads }

-- so many bytes of a buffer are some
pub some_taken : (n : ℕ) (buffer : List ℕ) → ¬ (n ≡ 0) → n ≤ length buffer → 0 < length (take n buffer)
some_taken n buffer some fits = let sized = length-take-le n buffer fits in let more = some_of n some in omega (arith, sized, more)

-- a turn was spent on a read that brought something
pub one_turn : (a b : ReaderState) (left : ℕ) (u : Option (List ℕ)) (piece : List ℕ) → 0 < left → b.reads ≡ min (a.reads + 1) (2 ^ 64 - 1) → Consumes a.come b.come piece → 0 < length piece → IsNoted a.come u a.moments b.moments
    → SpendsTurns 0 (record { reader = a; left = left }) (record { reader = b; left = left - 1 })
one_turn a b left u piece more count read some noted = record { made = 1; spent = omega arith; reads = one_read a b u piece count read some noted }

-- and on one that brought nothing
pub last_turn : (a b : ReaderState) (left : ℕ) (u : Option (List ℕ)) → 0 < left → b.reads ≡ min (a.reads + 1) (2 ^ 64 - 1) → Consumes a.come b.come [] → IsNoted a.come u a.moments b.moments
    → SpendsTurns 1 (record { reader = a; left = left }) (record { reader = b; left = left - 1 })
last_turn a b left u more count read noted = record { made = 1; spent = omega arith; reads = last_read a b u [] count read noted }

-- the reader was read where bytes were wanted and none were held
read_within : (s : BodyState) (ns : Option (List Moment)) → s.held ≡ [] → 0 < s.wanted → AllSince (IsMoment s.turns.reader.come s.taken) s.turns.reader.moments ns → AllSince (IsWithinBody s) s.turns.reader.moments ns
read_within s ns none wants noted = since_so (IsMoment s.turns.reader.come s.taken) (IsWithinBody s) s.turns.reader.moments ns (λ m is. record {
  came = [];
  consumed = subst (λ (x : Moment). Consumes s.turns.reader.come x.to_come []) (sym is) (Consumes-nil s.turns.reader.come);
  wants = let empty : length s.held ≡ 0 = ap length none in omega (arith, empty, wants);
  taken = ap (λ (x : Moment). x.taken) is;
}) noted

-- there was no fault
no_fault : {P : Type 0} (f : Option BodyFault) → f ≡ None → IsSome f → P
no_fault None none some = cc
no_fault (Some x) none some = cc

-- some of the reader's bytes were given
pub gave_read : (f : Option BodyFault) (a b : Turns) (u : Option (List ℕ)) (wanted n : ℕ) (held piece : List ℕ) → f ≡ None → held ≡ [] → Consumes a.reader.come b.reader.come piece → length piece ≡ n → n ≤ wanted → SpendsTurns 0 a b
    → 0 < wanted → AllSince (IsMoment a.reader.come u) a.reader.moments b.reader.moments → b.reader.fault ≡ a.reader.fault
    → HasReadBody (record { held = held; wanted = wanted; fault = f; turns = a; taken = u }) (record { held = held; wanted = wanted - n; fault = f; turns = b; taken = u })
gave_read f a b u wanted n held piece none e c l h spent wants noted good = record {
  used = piece;
  came = piece;
  consumed = c;
  given = ap (λ (x : List ℕ). x ++ piece) e ∙ sym (append-nil piece) ∙ ap (λ (x : List ℕ). piece ++ x) (sym e);
  counted = omega arith;
  turns = subst (λ (x : Option BodyFault). SpendsTurns (idle_at x) a b) (sym none) spent;
  unread = λ some. no_fault f none some;
  fault = stays_kept f;
  caused = λ t. still_no_fault f (record { held = held; wanted = wanted - n; fault = f; turns = b; taken = u }) none refl;
  failed = inl good;
  taken = refl;
  moments = read_within (record { held = held; wanted = wanted; fault = f; turns = a; taken = u }) b.reader.moments e wants noted;
}

holds_failed : (still kept : Option ReadFault) (fault : BodyFault) → (still ≡ kept) ⊎ (fault ≡ TheReadFault) → (still ≡ kept) ⊎ (Some fault ≡ Some TheReadFault)
holds_failed still kept fault (inl e) = inl e
holds_failed still kept fault (inr e) = inr (ap Some e)

-- no byte was given, and this is the fault now
pub broke_off : (f : Option BodyFault) (a b : Turns) (u : Option (List ℕ)) (wanted : ℕ) (held : List ℕ) (fault : BodyFault) → f ≡ None → Consumes a.reader.come b.reader.come [] → SpendsTurns (idle_at (Some fault)) a b
    → 0 < wanted → held ≡ [] → AllSince (IsMoment a.reader.come u) a.reader.moments b.reader.moments → IsCauseOf fault b
    → (b.reader.fault ≡ a.reader.fault) ⊎ (fault ≡ TheReadFault)
    → HasReadBody (record { held = held; wanted = wanted; fault = f; turns = a; taken = u }) (record { held = held; wanted = wanted; fault = Some fault; turns = b; taken = u })
broke_off f a b u wanted held fault none c spent wants none_held noted cause failed = record {
  used = [];
  came = [];
  consumed = c;
  given = append-nil held;
  counted = omega arith;
  turns = spent;
  unread = λ some. no_fault f none some;
  fault = subst (λ (x : Option BodyFault). StaysKept x (Some fault)) (sym none) tt;
  caused = λ t. record { wants = wants; none_held = none_held; cause = cause };
  failed = holds_failed b.reader.fault a.reader.fault fault failed;
  taken = refl;
  moments = read_within (record { held = held; wanted = wanted; fault = f; turns = a; taken = u }) b.reader.moments none_held wants noted;
}
