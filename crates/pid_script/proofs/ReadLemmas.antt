-- The reads of a script.
use Rattle.std.proofs.Common.{◌≡◌, ℕ, ◌+◌, ◌*◌, ◌-◌, ◌^◌, ◌<◌, ◌≤◌, min, length, List, [], ◌∷◌, ◌++◌, take, Option, Some, None, Result, Ok, Err, refl, sym, ap, subst, ◌∙◌, append_assoc, arith}
use Rattle.std.proofs.lemmas.List.{append-nil, length-append, length-take}
use Rattle.std.specs.Prelude.{IfSome, IsSome}
use Rattle.std.specs.List.{AllByRecursion}
use Rattle.std.specs.Io.KnownBytes.{Consumes, Keeps, IsAtEnd}
use Rattle.pid_file.specs.declared.io.ReadFault.{ReadFault as InputFault}
use Rattle.pid_ident.specs.Moments.{Moment}
use Rattle.pid_ident.specs.Steps.Moments.{IsNoted}
use Rattle.pid_reader.specs.Lines.{drop_cr}
use Rattle.pid_moderation.specs.History.{History}
use Rattle.pid_script.specs.declared.line_end.LineEnd.{LineEnd}
use Rattle.pid_script.specs.declared.line_end.LineEnd.TheVariants as line_ends
use Rattle.pid_service_laws.specs.declared.registry_calls.RegistryCalls.{Ghosts}
use Rattle.pid_script.specs.declared.script_end.ScriptEnd.{ScriptEnd}
use Rattle.pid_script.specs.declared.script_end.ScriptEnd.TheVariants.{ReadFault as ReadEnd, WriteFault as WriteEnd, TurnsSpent}
use Rattle.pid_script.specs.Steps.Progress.{HasAnswered, Ended, EndsText, script_end}
use Rattle.pid_script.specs.Steps.Output.{Out}
use Rattle.pid_script.specs.Scripts.{passage, IsCutOff, IsScript, ReaderAndWriter, MakesReads, EndsWith, HasMore, Notes, BUFFER_ROOM}
use Rattle.pid_script.specs.RegistryStates.{ShowsOrHasFailed}
use Rattle.pid_script.specs.ScriptLines.{LONGEST}
use Rattle.pid_script.proofs.Answered.{answers_out}
use Rattle.pid_script.proofs.Noting.{last_noted, all_noted}
use Rattle.pid_script.proofs.Pieces.{no_line}
use Rattle.pid_script.proofs.Calling.{send_still, go_still, go_then}
use Rattle.pid_script.specs.Calling.{CallsGo}
use Rattle.pid_script.proofs.SayLemmas.{Appends-nil, none_fits}

Consumes-then : (a b c : Option (List ℕ)) (x y : List ℕ) → Consumes a b x → Consumes b c y → Consumes a c (x ++ y)
Consumes-then None b c x y p q = tt
Consumes-then (Some a) None c x y p q = absurd p
Consumes-then (Some a) (Some b) None x y p q = absurd q
Consumes-then (Some a) (Some b) (Some c) x y p q = p ∙ ap (λ (l : List ℕ). x ++ l) q ∙ sym (append_assoc x y c)

Consumes-nil : (a : Option (List ℕ)) → Consumes a a []
Consumes-nil None = tt
Consumes-nil (Some x) = refl

Consumes-kept : (a b c : Option (List ℕ)) (x : List ℕ) → Consumes a b x → Keeps b c → Consumes a c x
Consumes-kept None b c x p q = tt
Consumes-kept (Some a) None c x p q = absurd p
Consumes-kept (Some a) (Some b) None x p q = absurd q
Consumes-kept (Some a) (Some b) (Some c) x p q = p ∙ ap (λ (l : List ℕ). x ++ l) (sym q)

-- so much was read, and its whole lines were answered; nothing is held
pub record HasRead {R : Type 0} (m : Ghosts R) (old now : R) (taken : Option (List ℕ)) (left : Out) (come come_now : Option (List ℕ)) (kept : List ℕ) (reads reads_now turn : ℕ) : Type 0 where
  pub was_honest : m.showing.is_clean now → m.showing.is_clean old
  pub calls : CallsGo m.showing old now
  pub front : List ℕ
  pub consumed : Consumes come come_now front
  pub bounded : length front ≤ turn * BUFFER_ROOM
  pub some : turn ≤ length front
  pub answered : m.showing.is_clean now → (h : History) → ShowsOrHasFailed m old h → HasAnswered m h taken old now left kept front
  pub empty : left.held ≡ []
  pub counted : reads < 2 ^ 64 → reads_now ≡ min (reads + turn) (2 ^ 64 - 1)

pub one_more : (reads turn now next : ℕ) → now ≡ min (reads + turn) (2 ^ 64 - 1) → next ≡ min (now + 1) (2 ^ 64 - 1) → next ≡ min (reads + (turn + 1)) (2 ^ 64 - 1)
one_more reads turn now next p q = omega arith

pub cut_off : {R : Type 0} (m : Ghosts R) (h : History) (taken : Option (List ℕ)) (old new : R) (left : Out) (kept front : List ℕ) (come now next : Option (List ℕ)) → Consumes come now front → Keeps now next → left.held ≡ [] → HasAnswered m h taken old new left kept front → IfSome come (λ text. IsCutOff m h (passage old new taken left.taken) text next)
cut_off m h taken old new left kept front None now next p q none a = tt
cut_off m h taken old new left kept front (Some text) now next p q none a = record { front = front; read = Consumes-kept (Some text) now next front p q; short = subst (λ (l : List ℕ). length (drop_cr l) ≤ LONGEST) a.open_line a.short; answers = answers_out m h taken old new left _ a.answered none }

Keeps-same : (a : Option (List ℕ)) → Keeps a a
Keeps-same None = tt
Keeps-same (Some x) = refl

pub turns_over : {R : Type 0} (m : Ghosts R) (h : History) (taken : Option (List ℕ)) (old new : R) (left : Out) (kept front : List ℕ) (come now : Option (List ℕ)) → Consumes come now front → left.held ≡ [] → HasAnswered m h taken old new left kept front → IfSome come (λ text. IsCutOff m h (passage old new taken left.taken) text now)
turns_over m h taken old new left kept front come now p none a = cut_off m h taken old new left kept front come now now p (Keeps-same now) none a

is_script : {R : Type 0} (m : Ghosts R) (e : LineEnd) (h : History) (taken : Option (List ℕ)) (old new : R) (left : Out) (text rest : List ℕ) → Ended m e h taken old new left text rest → IsScript m (script_end (Err e)) h (passage old new taken left.taken) text (Some rest)
is_script m line_ends.Stopped h taken old new left text rest e = e
is_script m line_ends.WriteFault h taken old new left text rest e = e
is_script m line_ends.TooLong h taken old new left text rest e = e

whole_script : {R : Type 0} (m : Ghosts R) (r : Result (Unit {0}) LineEnd) (h : History) (taken : Option (List ℕ)) (old new : R) (left : Out) (text : List ℕ) → EndsText m r h taken old new left text → IsScript m (script_end r) h (passage old new taken left.taken) text (Some [])
whole_script m (Ok x) h taken old new left text e = e
whole_script m (Err end) h taken old new left text e = is_script m end h taken old new left text [] e

pub not_spent : (r : Result (Unit {0}) LineEnd) → script_end r ≡ TurnsSpent → ⊥
not_spent (Ok x) e = absurd cc
not_spent (Err line_ends.Stopped) e = absurd cc
not_spent (Err line_ends.WriteFault) e = absurd cc
not_spent (Err line_ends.TooLong) e = absurd cc

pub not_some : {A : Type 0} (o : Option A) → o ≡ None → IsSome o → ⊥
not_some None e is = absurd cc
not_some (Some x) e is = absurd cc

-- an end that is no fault of the reader
pub ended_by : (r : Result (Unit {0}) LineEnd) (end : ScriptEnd) (s : ReaderAndWriter) → end ≡ script_end r → s.read_fault ≡ None → (r ≡ Err line_ends.WriteFault → IsSome s.write_fault) → MakesReads end s → EndsWith end s
ended_by r end s is none kept made = record { read_fault = by_reader r is; write_fault = by_writer r is kept; failed = λ some fault. absurd (not_some s.read_fault none fault); reads = made }
  where
    by_reader : (r : Result (Unit {0}) LineEnd) → end ≡ script_end r → end ≡ ReadEnd → IsSome s.read_fault
    by_reader (Ok x) is e = absurd cc
    by_reader (Err line_ends.Stopped) is e = absurd cc
    by_reader (Err line_ends.WriteFault) is e = absurd cc
    by_reader (Err line_ends.TooLong) is e = absurd cc

    by_writer : (r : Result (Unit {0}) LineEnd) → end ≡ script_end r → (r ≡ Err line_ends.WriteFault → IsSome s.write_fault) → end ≡ WriteEnd → IsSome s.write_fault
    by_writer (Ok x) is kept e = absurd cc
    by_writer (Err line_ends.Stopped) is kept e = absurd cc
    by_writer (Err line_ends.WriteFault) is kept e = kept refl
    by_writer (Err line_ends.TooLong) is kept e = absurd cc

pub some_known : {A : Type 0} (o : Option A) (x : A) → o ≡ Some x → IsSome o
some_known None x e = cc
some_known (Some y) x e = refl

pub none_read : {R : Type 0} (m : Ghosts R) (old : R) (now : Out) (come : Option (List ℕ)) (reads : ℕ) (kept : List ℕ) → now.held ≡ [] → kept ≡ [] → HasRead m old old now.taken now come come kept reads reads 0
none_read m old now come reads kept nothing none = record {
  was_honest = λ x. x;
  calls = go_still m.showing old;
  front = [];
  consumed = Consumes-nil come;
  bounded = omega arith;
  some = omega arith;
  answered = λ _ h stands. record {
    open_line = none;
    short = no_line kept none;
    answered = record {
      before = [];
      waiting = [];
      parts = refl;
      asked = refl;
      between = now.taken;
      told = Appends-nil now.taken;
      sent = [];
      went = Appends-nil now.taken;
      rest = nothing;
      room = none_fits now.held nothing;
      fits = tt;
      leaves = record { shows = λ s. s; failed = λ f. refl };
      lives = λ f. tt;
      calls = send_still m.showing old 0;
    };
  };
  empty = nothing;
  counted = λ small. omega arith;
}

more_bounded : (front piece : List ℕ) (turn : ℕ) → length front ≤ turn * BUFFER_ROOM → length piece ≤ BUFFER_ROOM → length (front ++ piece) ≤ (turn + 1) * BUFFER_ROOM
more_bounded front piece turn p q = omega (arith, length-append front piece)

-- what a read takes fits its room
pub piece_fits : (count : ℕ) (buffer : List ℕ) → length buffer ≡ BUFFER_ROOM → length (take count buffer) ≤ BUFFER_ROOM
piece_fits count buffer whole = omega (arith, length-take count buffer)

-- a read that is not at the end takes some
pub piece_some : (count : ℕ) (buffer : List ℕ) → (count ≡ 0 → ⊥) → count ≤ length buffer → 0 < length (take count buffer)
piece_some count buffer not fits = omega (arith, length-take count buffer, not, fits)

pub keeps_none : (now next : Option (List ℕ)) → Keeps now next → Consumes now next []
keeps_none None next p = tt
keeps_none (Some x) None p = absurd p
keeps_none (Some x) (Some y) p = sym p

-- one more read, which is the last one, whatever it took
pub last_read : (end : ScriptEnd) (s : ReaderAndWriter) (turn reads_now : ℕ) (now taken : Option (List ℕ)) (ms : Option (List Moment)) (front piece : List ℕ)
    → turn < s.turns → (s.reads < 2 ^ 64 → reads_now ≡ min (s.reads + turn) (2 ^ 64 - 1)) → s.reads_now ≡ min (reads_now + 1) (2 ^ 64 - 1)
    → Consumes s.come now front → length front ≤ turn * BUFFER_ROOM → turn ≤ length front → Consumes now s.come_now piece → length piece ≤ BUFFER_ROOM
    → Notes turn (AllByRecursion HasMore) s.moments ms → IsNoted now taken ms s.moments_now → (end ≡ TurnsSpent → ⊥) → MakesReads end s
last_read end s turn reads_now now taken ms front piece less counted more read bounded some took fits past noted other = record {
  made = turn + 1;
  within = omega (arith, less);
  counted = λ small. one_more s.reads turn reads_now s.reads_now (counted small) more;
  taken = front ++ piece;
  consumed = Consumes-then s.come now s.come_now front piece read took;
  room = more_bounded front piece turn bounded fits;
  some = omega (arith, length-append front piece, some);
  noted = last_noted turn now taken s.moments ms s.moments_now past noted;
  spent = λ e. absurd (other e);
}

-- a read that failed
pub read_failed : (s : ReaderAndWriter) (f : InputFault) (turn reads_now : ℕ) (now taken : Option (List ℕ)) (ms : Option (List Moment)) (front : List ℕ)
    → s.read_fault ≡ Some f → turn < s.turns → (s.reads < 2 ^ 64 → reads_now ≡ min (s.reads + turn) (2 ^ 64 - 1)) → s.reads_now ≡ min (reads_now + 1) (2 ^ 64 - 1)
    → Consumes s.come now front → length front ≤ turn * BUFFER_ROOM → turn ≤ length front → Keeps now s.come_now
    → Notes turn (AllByRecursion HasMore) s.moments ms → IsNoted now taken ms s.moments_now → EndsWith ReadEnd s
read_failed s f turn reads_now now taken ms front is less counted more read bounded some kept past noted = record {
  read_fault = λ e. some_known s.read_fault f is;
  write_fault = λ e. absurd cc;
  failed = λ few fault. refl;
  reads = last_read ReadEnd s turn reads_now now taken ms front [] less counted more read bounded some (keeps_none now s.come_now kept) (omega arith) past noted (λ e. absurd cc);
}

pub no_turn : {X : Type 0} → 0 < 0 → X
no_turn less = absurd (omega (arith, less))

pub last_turn : (turn turns : ℕ) → turn ≤ turns → turns ≤ turn → turn ≡ turns
last_turn turn turns less end = omega (arith, less, end)

pub has_room : (buffer : List ℕ) → length buffer ≡ BUFFER_ROOM → 0 < length buffer
has_room buffer whole = omega (arith, whole)

-- all reads were made
pub all_made : (s : ReaderAndWriter) (turn : ℕ) (front : List ℕ)
    → turn ≡ s.turns → (s.reads < 2 ^ 64 → s.reads_now ≡ min (s.reads + turn) (2 ^ 64 - 1))
    → Consumes s.come s.come_now front → length front ≤ turn * BUFFER_ROOM → turn ≤ length front
    → (0 < turn → s.read_fault ≡ None) → Notes turn (AllByRecursion HasMore) s.moments s.moments_now → EndsWith TurnsSpent s
all_made s turn front all counted read bounded some none noted = record {
  read_fault = λ e. absurd cc;
  write_fault = λ e. absurd cc;
  failed = λ few fault. absurd (not_some s.read_fault (none (omega (arith, few, all))) fault);
  reads = record {
    made = turn;
    within = omega (arith, all);
    counted = counted;
    taken = front;
    consumed = read;
    room = bounded;
    some = omega (arith, some);
    noted = all_noted turn s.moments s.moments_now noted;
    spent = λ e. record { all = all; each = some; noted = noted };
  };
}

-- one more piece was read and answered
pub read_more : {R : Type 0} (m : Ghosts R) (old now next : R) (taken : Option (List ℕ)) (left left_next : Out) (come come_now come_next : Option (List ℕ)) (kept kept_next piece : List ℕ) (reads reads_now reads_next turn : ℕ)
    → HasRead m old now taken left come come_now kept reads reads_now turn → Consumes come_now come_next piece → length piece ≤ BUFFER_ROOM → 0 < length piece → reads_next ≡ min (reads_now + 1) (2 ^ 64 - 1) → (m.showing.is_clean next → m.showing.is_clean now) → CallsGo m.showing now next → left_next.held ≡ []
    → (m.showing.is_clean next → (h : History) (start : Option (List ℕ)) (first : R) (text : List ℕ) → ShowsOrHasFailed m first h → HasAnswered m h start first now left kept text → HasAnswered m h start first next left_next kept_next (text ++ piece))
    → HasRead m old next taken left_next come come_next kept_next reads reads_next (turn + 1)
read_more m old now next taken left left_next come come_now come_next kept kept_next piece reads reads_now reads_next turn r consumed fits more counted was calls none answered = record {
  was_honest = λ t. r.was_honest (was t);
  calls = go_then m.showing old now next r.calls calls;
  front = r.front ++ piece;
  consumed = Consumes-then come come_now come_next r.front piece r.consumed consumed;
  bounded = more_bounded r.front piece turn r.bounded fits;
  some = omega (arith, length-append r.front piece, r.some, more);
  answered = λ t h stands. answered t h taken old r.front stands (r.answered (was t) h stands);
  empty = none;
  counted = λ small. one_more reads turn reads_now reads_next (r.counted small) counted;
}

-- the end of the input
pub all_read : {R : Type 0} (m : Ghosts R) (r : Result (Unit {0}) LineEnd) (h : History) (taken : Option (List ℕ)) (old new : R) (left : Out) (front : List ℕ) (come now next : Option (List ℕ)) → Consumes come now front → Consumes now next [] → IsAtEnd next → EndsText m r h taken old new left front → IfSome come (λ text. IsScript m (script_end r) h (passage old new taken left.taken) text next)
all_read m r h taken old new left front None now next p q end e = tt
all_read m r h taken old new left front (Some text) now None p q end e = absurd (Consumes-then (Some text) now None front [] p q)
all_read m r h taken old new left front (Some text) now (Some rest) p q end e =
    let whole : text ≡ front = Consumes-then (Some text) now (Some rest) front [] p q ∙ ap (λ (l : List ℕ). (front ++ []) ++ l) end ∙ append-nil (front ++ []) ∙ append-nil front in
    let none : rest ≡ [] = end in
    subst (λ (l : List ℕ). IsScript m (script_end r) h (passage old new taken left.taken) text (Some l)) (sym none) (whole_script m r h taken old new left text (subst (EndsText m r h taken old new left) (sym whole) e))

-- a line ended it
pub ended : {R : Type 0} (m : Ghosts R) (e : LineEnd) (h : History) (taken : Option (List ℕ)) (old new : R) (left : Out) (front piece : List ℕ) (come now next : Option (List ℕ)) → Consumes come now front → Consumes now next piece → ((more : List ℕ) → Ended m e h taken old new left ((front ++ piece) ++ more) more) → IfSome come (λ text. IsScript m (script_end (Err e)) h (passage old new taken left.taken) text next)
ended m e h taken old new left front piece None now next p q ends = tt
ended m e h taken old new left front piece (Some text) now None p q ends = absurd (Consumes-then (Some text) now None front piece p q)
ended m e h taken old new left front piece (Some text) now (Some rest) p q ends =
    is_script m e h taken old new left text rest (subst (λ (l : List ℕ). Ended m e h taken old new left l rest) (sym (Consumes-then (Some text) now (Some rest) front piece p q)) (ends rest))

pub consumed_none : (now new : Option (List ℕ)) (count : ℕ) (buffer : List ℕ) → count ≡ 0 → Consumes now new (take count buffer) → Consumes now new []
consumed_none now new count buffer zero_is p = subst (Consumes now new) (ap (λ n. take n buffer) zero_is ∙ take_none buffer) p
  where
    take_none : (buffer : List ℕ) → take 0 buffer ≡ []
    take_none [] = refl
    take_none (b ∷ bs) = refl
