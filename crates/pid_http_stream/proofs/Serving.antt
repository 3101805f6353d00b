-- The serving loop, over plain values.
use Rattle.std.proofs.Common.{◌≡◌, ℕ, ◌+◌, true, false, List, [], ◌∷◌, ◌++◌, Option, Some, None, length, refl, sym, ap, subst, ◌∙◌, arith, append_assoc, length-append, inl, inr}
use Rattle.std.specs.Prelude.{IfSome, Ok, Err}
use Rattle.std.specs.Io.KnownBytes.{Appends, Consumes, IsAtEnd}
use Rattle.std.proofs.lemmas.List.{append-nil}
use Rattle.std.proofs.KnownBytes.{Appends-nil, Appends-trans, Consumes-trans}
use Rattle.pid_http_stream.specs.Conducts.{Conduct, AreReplies}
use Rattle.pid_http_stream.specs.Endings.{HasFault}
use Rattle.pid_http_stream.specs.Steps.Intakes.{ComesIn}
use Rattle.pid_http_stream.specs.Leftovers.{IsLeftover}
use Rattle.pid_http_stream.specs.Replies.{Answer, reply_bytes}
use Rattle.pid_http_stream.specs.Requests.{Request, IsRequest}
use Rattle.pid_http_stream.specs.Serving.{saturated, Outside, RestsAfter, AnswersAll, AnswersFront, AnswersThen, ReadsThen, RefusalNext, IsCutInReply, IsCutNext, RunsOut, WaitsOver, IsServed}
use Rattle.pid_http_stream.specs.Steps.Loop.{count_with, IsReplied, WritesRefusal, EndsWithin, Steps, stop_end}
use Rattle.pid_http_stream.specs.Streams.{closes, Ending, clean, closed, faulty, EndsStream, Fronts, Splits}
use Rattle.pid_http_stream.specs.Unfinished.{IsUnfinished}
use Rattle.pid_http_stream.specs.declared.intake.Stop.{Stop}
use Rattle.pid_http_stream.specs.declared.intake.Stop.TheVariants as stops
use Rattle.pid_http_stream.specs.declared.refusal.StreamFault.{StreamFault}
use Rattle.pid_http_stream.specs.declared.refusal.StreamFault.TheVariants.{BadHead, Encoding, BodyTooLong, BodyShort}
use Rattle.pid_http_stream.specs.declared.stream.StreamEnd.{StreamEnd}
use Rattle.pid_http_stream.specs.declared.stream.StreamEnd.TheVariants.{Clean, Closed, Refused, ReadFault, WriteFault, StoreFault, Memory, TurnsSpent}
use Rattle.pid_http_stream.proofs.Heads.{IsRequest-append}

-- ---- requests at the front of a stream

Fronts-append : (s : List ℕ) (rs : List Request) (rest more : List ℕ) → Fronts s rs rest → Fronts (s ++ more) rs (rest ++ more)
Fronts-append s [] rest more e = ap (λ (l : List ℕ). l ++ more) e
Fronts-append s (r ∷ rs) rest more (behind, is, stays, later) = (behind ++ more, IsRequest-append s r behind more is, stays, Fronts-append behind rs rest more later)

Fronts-snoc : (s : List ℕ) (rs : List Request) (rest : List ℕ) (r : Request) (behind : List ℕ) → Fronts s rs rest → IsRequest rest r behind → closes r ≡ false → Fronts s (rs ++ r ∷ []) behind
Fronts-snoc s [] rest r behind e is stays = (behind, subst (λ (l : List ℕ). IsRequest l r behind) (sym e) is, stays, refl)
Fronts-snoc s (q ∷ rs) rest r behind (middle, was, before, later) is stays = (middle, was, before, Fronts-snoc middle rs rest r behind later is stays)

Splits-end : (s : List ℕ) (rs : List Request) (rest : List ℕ) (e : Ending) → Fronts s rs rest → EndsStream rest e → Splits s rs e
Splits-end s [] rest e same ends = subst (λ (l : List ℕ). EndsStream l e) (sym same) ends
Splits-end s (r ∷ rs) rest e (behind, is, stays, later) ends = (behind, is, inr (stays, Splits-end behind rs rest e later ends))

Splits-closed : (s : List ℕ) (rs : List Request) (rest : List ℕ) (r : Request) (behind : List ℕ) → Fronts s rs rest → IsRequest rest r behind → closes r ≡ true → Splits s (rs ++ r ∷ []) closed
Splits-closed s [] rest r behind e is shut = (behind, subst (λ (l : List ℕ). IsRequest l r behind) (sym e) is, inl (shut, refl, refl))
Splits-closed s (q ∷ rs) rest r behind (middle, was, before, later) is shut = (middle, was, inr (before, Splits-closed middle rs rest r behind later is shut))

replies_snoc : {H : Type 0} (conduct : Conduct H) (a b c : H) (rs : List Request) (r : Request) (bytes : List ℕ) (answer : Answer) → AreReplies conduct a rs bytes b → conduct.answers b r answer c
    → AreReplies conduct a (rs ++ r ∷ []) (bytes ++ reply_bytes answer (closes r)) c
replies_snoc conduct a b c [] r bytes answer (e, same) is =
    (c, answer, [], subst (λ x. conduct.answers x r answer c) (sym same) is, ap (λ (l : List ℕ). l ++ reply_bytes answer (closes r)) e ∙ sym (append-nil (reply_bytes answer (closes r))), (refl, refl))
replies_snoc conduct a b c (q ∷ rs) r bytes answer (mid, first, later, was, e, rest) is =
    (mid, first, later ++ reply_bytes answer (closes r), was, ap (λ (l : List ℕ). l ++ reply_bytes answer (closes r)) e ∙ append_assoc (reply_bytes first (closes q)) later (reply_bytes answer (closes r)), replies_snoc conduct mid b c rs r later answer rest is)

-- ---- what the loop keeps

-- what was read of the stream is the requests that were answered, and what is held
pub record IsServing {H : Type 0} (conduct : Conduct H) (o : Outside H) (stream : List ℕ) (left : Option (List ℕ)) (held : List ℕ) (count : ℕ) : Type 0 where
  pub read : List ℕ
  pub consumed : Consumes (Some stream) left read
  pub before : AnswersFront conduct o read held count

pub if_some : {A : Type 0} (o : Option A) (P Q : A → Type 0) → ((x : A) → P x → Q x) → IfSome o P → IfSome o Q
if_some None P Q f h = tt
if_some (Some x) P Q f h = f x h

pub begins : {H : Type 0} (conduct : Conduct H) (h : H) (t input : Option (List ℕ)) → IfSome input (λ s. IsServing conduct (record { handler = h; handler_after = h; taken = t; taken_after = t }) s input [] 0)
begins conduct h t None = tt
begins conduct h t (Some s) = record {
  read = [];
  consumed = refl;
  before = record { requests = []; replies = []; fronts = refl; answered = (refl, refl); written = Appends-nil t; counts = refl };
}

front_append : {H : Type 0} (conduct : Conduct H) (o : Outside H) (s rest more : List ℕ) (count : ℕ) → AnswersFront conduct o s rest count → AnswersFront conduct o (s ++ more) (rest ++ more) count
front_append conduct o s rest more count f = record {
  requests = f.requests;
  replies = f.replies;
  fronts = Fronts-append s f.requests rest more f.fronts;
  answered = f.answered;
  written = f.written;
  counts = f.counts;
}

-- a piece came
pub comes : {H : Type 0} (conduct : Conduct H) (o : Outside H) (stream : List ℕ) (mid after : Option (List ℕ)) (held held_after : List ℕ) (count : ℕ) → IsServing conduct o stream mid held count
    → ComesIn held held_after mid after → IsServing conduct o stream after held_after count
comes conduct o stream mid after held held_after count s c = record {
  read = s.read ++ c.piece;
  consumed = Consumes-trans (Some stream) mid after s.read c.piece s.consumed c.consumed;
  before = subst (λ (l : List ℕ). AnswersFront conduct o (s.read ++ c.piece) l count) (sym c.kept) (front_append conduct o s.read held c.piece count s.before);
}

brought : {H : Type 0} (conduct : Conduct H) (o : Outside H) (stream : List ℕ) (mid after : Option (List ℕ)) (held came more : List ℕ) (count : ℕ) → IsServing conduct o stream mid held count
    → mid ≡ Some (came ++ more) → after ≡ Some more → IsServing conduct o stream after (held ++ came) count
brought conduct o stream mid after held came more count s before behind = comes conduct o stream mid after held (held ++ came) count s (record {
  piece = came;
  consumed = subst (λ (k : Option (List ℕ)). Consumes k after came) (sym before) (subst (λ (k : Option (List ℕ)). Consumes (Some (came ++ more)) k came) (sym behind) refl);
  kept = refl;
})

-- what is left of the reader goes on from what was read
whole : (s : List ℕ) (left : Option (List ℕ)) (read : List ℕ) → Consumes (Some s) left read → (more : List ℕ) × (left ≡ Some more) × (s ≡ read ++ more)
whole s None read c = absurd c
whole s (Some more) read c = (more, refl, c)

counted_more : (n count after : ℕ) → count ≡ saturated n → after ≡ saturated (count + 1) → after ≡ saturated (n + 1)
counted_more n count after e f = omega arith

count_snoc : (rs : List Request) (r : Request) (count after : ℕ) → count ≡ saturated (length rs) → after ≡ saturated (count + 1) → after ≡ saturated (length (rs ++ r ∷ []))
count_snoc rs r count after e f = counted_more (length rs) count after e f ∙ ap saturated (sym (length-append rs (r ∷ [])))

-- a request was answered, and the stream goes on
answered_open : {H : Type 0} (conduct : Conduct H) (a b c : H) (t u v : Option (List ℕ)) (stream : List ℕ) (left : Option (List ℕ)) (held behind all : List ℕ) (count count_after : ℕ)
    → IsServing conduct (record { handler = a; handler_after = b; taken = t; taken_after = u }) stream left held count
    → IsReplied conduct (record { handler = b; handler_after = c; taken = u; taken_after = v }) (record { came = held; behind = behind; all = all }) false → count_after ≡ saturated (count + 1)
    → IsServing conduct (record { handler = a; handler_after = c; taken = t; taken_after = v }) stream left behind count_after
answered_open conduct a b c t u v stream left held behind all count count_after s r counts = record {
  read = s.read;
  consumed = s.consumed;
  before = record {
    requests = s.before.requests ++ r.request ∷ [];
    replies = s.before.replies ++ reply_bytes r.answer (closes r.request);
    fronts = Fronts-snoc s.read s.before.requests held r.request behind s.before.fronts r.is r.closes_so;
    answered = replies_snoc conduct a b c s.before.requests r.request s.before.replies r.answer s.before.answered r.answered;
    written = Appends-trans t u v s.before.replies (reply_bytes r.answer (closes r.request)) s.before.written r.written;
    counts = count_snoc s.before.requests r.request count count_after s.before.counts counts;
  };
}

-- one step of the loop
pub steps_open : {H : Type 0} (conduct : Conduct H) (a b c : H) (t u v : Option (List ℕ)) (stream : List ℕ) (mid after : Option (List ℕ)) (held behind left : List ℕ) (count count_after : ℕ)
    → IsServing conduct (record { handler = a; handler_after = b; taken = t; taken_after = u }) stream mid held count
    → Steps conduct (record { handler = b; handler_after = c; taken = u; taken_after = v }) (record { input = mid; input_after = after; held = held; held_after = behind }) (Ok tt) → count_after ≡ saturated (count + 1) → left ≡ behind
    → IsServing conduct (record { handler = a; handler_after = c; taken = t; taken_after = v }) stream after left count_after
steps_open conduct a b c t u v stream mid after held behind left count count_after s step counts same =
    subst (λ (l : List ℕ). IsServing conduct (record { handler = a; handler_after = c; taken = t; taken_after = v }) stream after l count_after) (sym same)
    (answered_open conduct a b c t u v stream after (held ++ step.came) behind ((held ++ step.came) ++ step.more) count count_after (brought conduct _ stream mid after held step.came step.more count s step.before step.after) step.is counts)

-- ---- the ends

-- the front that was answered, as a front of the whole stream
front_of : {H : Type 0} (conduct : Conduct H) (o : Outside H) (stream : List ℕ) (left : Option (List ℕ)) (held more : List ℕ) (count : ℕ) → IsServing conduct o stream left held count → left ≡ Some more
    → AnswersFront conduct o stream (held ++ more) count
front_of conduct o stream left held more count s e =
    subst (λ (l : List ℕ). AnswersFront conduct o l (held ++ more) count) (sym (subst (λ (k : Option (List ℕ)). Consumes (Some stream) k s.read) e s.consumed)) (front_append conduct o s.read held more count s.before)

all_answered : {H : Type 0} (conduct : Conduct H) (a b c : H) (t u v : Option (List ℕ)) (stream rest : List ℕ) (ending : Ending) (tail : List ℕ) (count : ℕ)
    → (f : AnswersFront conduct (record { handler = a; handler_after = b; taken = t; taken_after = u }) stream rest count) → EndsStream rest ending → RestsAfter conduct ending (Fronts stream f.requests) b c → Appends u v tail
    → AnswersAll conduct (record { handler = a; handler_after = c; taken = t; taken_after = v }) stream ending tail count
all_answered conduct a b c t u v stream rest ending tail count f ends rests written = record {
  requests = f.requests;
  replies = f.replies;
  last = b;
  splits = Splits-end stream f.requests rest ending f.fronts ends;
  answered = f.answered;
  rests = rests;
  written = Appends-trans t u v f.replies tail f.written written;
  counts = f.counts;
}

pub ends_clean : {H : Type 0} (conduct : Conduct H) (a b : H) (t u : Option (List ℕ)) (stream : List ℕ) (left : Option (List ℕ)) (held : List ℕ) (count : ℕ)
    → IsServing conduct (record { handler = a; handler_after = b; taken = t; taken_after = u }) stream left held count
    → IsAtEnd left → IsLeftover held → AnswersAll conduct (record { handler = a; handler_after = b; taken = t; taken_after = u }) stream clean [] count
ends_clean conduct a b t u stream left held count s end rest =
    let w = whole stream left s.read s.consumed in
    let none : w.0 ≡ [] = subst IsAtEnd w.1 end in
    all_answered conduct a b b t u u stream held clean [] count
    (subst (λ (l : List ℕ). AnswersFront conduct (record { handler = a; handler_after = b; taken = t; taken_after = u }) stream l count) (ap (λ (l : List ℕ). held ++ l) none ∙ append-nil held) (front_of conduct _ stream left held w.0 count s w.1))
    rest refl (Appends-nil u)

-- the last request was answered
answered_closed : {H : Type 0} (conduct : Conduct H) (a b c : H) (t u v : Option (List ℕ)) (stream came behind more all : List ℕ) (count : ℕ)
    → AnswersFront conduct (record { handler = a; handler_after = b; taken = t; taken_after = u }) stream (came ++ more) count
    → IsReplied conduct (record { handler = b; handler_after = c; taken = u; taken_after = v }) (record { came = came; behind = behind; all = all }) true
    → AnswersAll conduct (record { handler = a; handler_after = c; taken = t; taken_after = v }) stream closed [] (saturated (count + 1))
answered_closed conduct a b c t u v stream came behind more all count f r = record {
  requests = f.requests ++ r.request ∷ [];
  replies = f.replies ++ reply_bytes r.answer (closes r.request);
  last = c;
  splits = Splits-closed stream f.requests (came ++ more) r.request (behind ++ more) f.fronts (IsRequest-append came r.request behind more r.is) r.closes_so;
  answered = replies_snoc conduct a b c f.requests r.request f.replies r.answer f.answered r.answered;
  rests = refl;
  written = subst (Appends t v) (sym (append-nil (f.replies ++ reply_bytes r.answer (closes r.request)))) (Appends-trans t u v f.replies (reply_bytes r.answer (closes r.request)) f.written r.written);
  counts = count_snoc f.requests r.request count (saturated (count + 1)) f.counts refl;
}

rests_same : {H : Type 0} (conduct : Conduct H) (fault : StreamFault) (IsRest : List ℕ → Type 0) (rest : List ℕ) → IsRest rest → (a : H) → RestsAfter conduct (faulty fault) IsRest a a
rests_same conduct BadHead IsRest rest is a = refl
rests_same conduct Encoding IsRest rest is a = refl
rests_same conduct BodyTooLong IsRest rest is a = refl
rests_same conduct BodyShort IsRest rest is a = (rest, is, inl refl)

-- and then this came of the rest
front_then : {H : Type 0} (conduct : Conduct H) (a b c : H) (t u v : Option (List ℕ)) (stream rest : List ℕ) (count : ℕ) (Then : List ℕ → Outside H → Type 0)
    → AnswersFront conduct (record { handler = a; handler_after = b; taken = t; taken_after = u }) stream rest count → Then rest (record { handler = b; handler_after = c; taken = u; taken_after = v })
    → AnswersThen conduct (record { handler = a; handler_after = c; taken = t; taken_after = v }) stream count Then
front_then conduct a b c t u v stream rest count Then f next = record { rest = rest; mid = b; taken = u; before = f; next = next }

-- what stands at the front is refused
refused : {H : Type 0} (conduct : Conduct H) (a b : H) (t u v : Option (List ℕ)) (stream rest : List ℕ) (left : Option (List ℕ)) (count : ℕ) (fault : StreamFault) (end : StreamEnd)
    → AnswersFront conduct (record { handler = a; handler_after = b; taken = t; taken_after = u }) stream rest count → HasFault rest fault → WritesRefusal fault u v end
    → IsServed conduct (record { handler = a; handler_after = b; taken = t; taken_after = v }) stream left end (count_with end count)
refused conduct a b t u v stream rest left count fault (Refused said) f has (same, written) =
    subst (λ k. IsServed conduct (record { handler = a; handler_after = b; taken = t; taken_after = v }) stream left (Refused k) (saturated (count + 1))) (sym same)
    (count, all_answered conduct a b b t u v stream rest (faulty fault) _ count f has (rests_same conduct fault (Fronts stream f.requests) rest f.fronts b) written, refl)
refused conduct a b t u v stream rest left count fault WriteFault f has written =
    front_then conduct a b b t u v stream rest count (IsCutInReply conduct) f (_, RefusalNext fault has refl (rests_same conduct fault (λ r. r ≡ rest) rest refl b), written)
refused conduct a b t u v stream rest left count fault Clean f has r = absurd r
refused conduct a b t u v stream rest left count fault Closed f has r = absurd r
refused conduct a b t u v stream rest left count fault ReadFault f has r = absurd r
refused conduct a b t u v stream rest left count fault StoreFault f has r = absurd r
refused conduct a b t u v stream rest left count fault Memory f has r = absurd r
refused conduct a b t u v stream rest left count fault TurnsSpent f has r = absurd r

pub ends_refused : {H : Type 0} (conduct : Conduct H) (a b : H) (t u v : Option (List ℕ)) (stream : List ℕ) (left : Option (List ℕ)) (held : List ℕ) (count : ℕ) (fault : StreamFault) (end : StreamEnd)
    → IsServing conduct (record { handler = a; handler_after = b; taken = t; taken_after = u }) stream left held count
    → IfSome left (λ more. HasFault (held ++ more) fault) → WritesRefusal fault u v end
    → IsServed conduct (record { handler = a; handler_after = b; taken = t; taken_after = v }) stream left end (count_with end count)
ends_refused conduct a b t u v stream left held count fault end s has r =
    let w = whole stream left s.read s.consumed in
    refused conduct a b t u v stream (held ++ w.0) left count fault end (front_of conduct _ stream left held w.0 count s w.1) (subst (λ (k : Option (List ℕ)). IfSome k (λ more. HasFault (held ++ more) fault)) w.1 has) r

-- the first requests of what was read were answered, and this became of the handler over the rest
reads_then : {H : Type 0} (conduct : Conduct H) (a b c : H) (t u v : Option (List ℕ)) (stream : List ℕ) (left : Option (List ℕ)) (held : List ℕ) (count : ℕ) (Then : H → List ℕ → H → Type 0)
    → IsServing conduct (record { handler = a; handler_after = b; taken = t; taken_after = u }) stream left held count → Then b held c → v ≡ u
    → ReadsThen conduct (record { handler = a; handler_after = c; taken = t; taken_after = v }) stream left count Then
reads_then conduct a b c t u v stream left held count Then s next same = (s.read, s.consumed, record { rest = held; mid = b; taken = u; before = s.before; next = (next, same) })

-- reading stops at a head
pub ends_stopped : {H : Type 0} (conduct : Conduct H) (a b : H) (t u : Option (List ℕ)) (stream : List ℕ) (left : Option (List ℕ)) (held : List ℕ) (count : ℕ) (stop : Stop)
    → IsServing conduct (record { handler = a; handler_after = b; taken = t; taken_after = u }) stream left held count → IsUnfinished held
    → IsServed conduct (record { handler = a; handler_after = b; taken = t; taken_after = u }) stream left (stop_end stop) count
ends_stopped conduct a b t u stream left held count stops.ReadFault s none = reads_then conduct a b b t u u stream left held count (WaitsOver conduct) s (inl refl, none) refl
ends_stopped conduct a b t u stream left held count stops.TurnsSpent s none = reads_then conduct a b b t u u stream left held count (WaitsOver conduct) s (inl refl, none) refl
ends_stopped conduct a b t u stream left held count stops.Memory s none = reads_then conduct a b b t u u stream left held count (RunsOut conduct) s (inl (inl refl, none)) refl

within : {H : Type 0} (conduct : Conduct H) (a b c : H) (t u v : Option (List ℕ)) (stream : List ℕ) (left : Option (List ℕ)) (came behind more : List ℕ) (count : ℕ) (end : StreamEnd)
    → IsServing conduct (record { handler = a; handler_after = b; taken = t; taken_after = u }) stream left came count → left ≡ Some more
    → EndsWithin conduct (record { handler = b; handler_after = c; taken = u; taken_after = v }) (record { came = came; behind = behind; all = came ++ more }) end
    → IsServed conduct (record { handler = a; handler_after = c; taken = t; taken_after = v }) stream left end (count_with end count)
within conduct a b c t u v stream left came behind more count Closed s e r =
    answered_closed conduct a b c t u v stream came behind more (came ++ more) count (front_of conduct _ stream left came more count s e) r
within conduct a b c t u v stream left came behind more count StoreFault s e cut = front_then conduct a b c t u v stream (came ++ more) count (IsCutNext conduct) (front_of conduct _ stream left came more count s e) cut
within conduct a b c t u v stream left came behind more count WriteFault s e cut = front_then conduct a b c t u v stream (came ++ more) count (IsCutInReply conduct) (front_of conduct _ stream left came more count s e) cut
within conduct a b c t u v stream left came behind more count (Refused fault) s e (same, has, stands, written) =
    let f = front_of conduct _ stream left came more count s e in
    subst (λ k. IsServed conduct (record { handler = a; handler_after = c; taken = t; taken_after = v }) stream left (Refused k) (saturated (count + 1))) (sym same)
    (count, all_answered conduct a b c t u v stream (came ++ more) (faulty BodyShort) _ count f has (came ++ more, f.fronts, stands) written, refl)
within conduct a b c t u v stream left came behind more count ReadFault s e (waits, same) = reads_then conduct a b c t u v stream left came count (WaitsOver conduct) s waits same
within conduct a b c t u v stream left came behind more count TurnsSpent s e (waits, same) = reads_then conduct a b c t u v stream left came count (WaitsOver conduct) s waits same
within conduct a b c t u v stream left came behind more count Memory s e (after, same) = reads_then conduct a b c t u v stream left came count (RunsOut conduct) s after same
within conduct a b c t u v stream left came behind more count Clean s e r = absurd r

-- the stream ends within a request
pub steps_ended : {H : Type 0} (conduct : Conduct H) (a b c : H) (t u v : Option (List ℕ)) (stream : List ℕ) (mid after : Option (List ℕ)) (held behind : List ℕ) (count : ℕ) (end : StreamEnd)
    → IsServing conduct (record { handler = a; handler_after = b; taken = t; taken_after = u }) stream mid held count
    → Steps conduct (record { handler = b; handler_after = c; taken = u; taken_after = v }) (record { input = mid; input_after = after; held = held; held_after = behind }) (Err end)
    → IsServed conduct (record { handler = a; handler_after = c; taken = t; taken_after = v }) stream after end (count_with end count)
steps_ended conduct a b c t u v stream mid after held behind count end s step =
    within conduct a b c t u v stream after (held ++ step.came) behind step.more count end (brought conduct _ stream mid after held step.came step.more count s step.before step.after) step.after step.is
