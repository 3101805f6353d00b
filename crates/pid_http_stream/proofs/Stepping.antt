-- One request, from what its handler was asked to what was written.
use Rattle.std.proofs.Common.{◌≡◌, ℕ, ◌+◌, ◌≤◌, Bool, true, false, List, [], ◌++◌, Option, Some, None, drop, refl, sym, ap, subst, ◌∙◌, arith, inl, inr}
use Rattle.std.specs.Prelude.{IfSome, IsSome, ◌⊎◌, Result, Ok, Err}
use Rattle.std.specs.Io.KnownBytes.{Appends, IsAtEnd}
use Rattle.std.proofs.lemmas.List.{append-nil}
use Rattle.httparse.specs.Grammar.{RequestHead}
use Rattle.httparse.specs.Spans.{IsRequestAt}
use Rattle.httparse.specs.declared.spans.HeaderSpan.{HeaderSpan}
use Rattle.httparse.specs.declared.spans.RequestSpans.{RequestSpans}
use Rattle.pid_file.specs.declared.io.ReadFault.{ReadFault}
use Rattle.pid_file.specs.declared.io.WriteFault.{WriteFault}
use Rattle.pid_http_stream.specs.Causes.{LastState, HasEndCause, EndsFor, idle_reads}
use Rattle.pid_http_stream.specs.Conducts.{Conduct, StandsOver}
use Rattle.pid_http_stream.specs.Connections.{asks_to_close}
use Rattle.pid_http_stream.specs.Endings.{IsShort}
use Rattle.pid_http_stream.specs.Handling.{MayReply}
use Rattle.pid_http_stream.specs.Replies.{Answer, reply_head, reply_bytes, fault_answer}
use Rattle.pid_http_stream.specs.Requests.{Request, IsRequest, fields_of}
use Rattle.pid_http_stream.specs.Steps.Intakes.{AskStops, StopsFor, idle_stop}
use Rattle.pid_http_stream.specs.Steps.Loop.{AsksHandler, IsSent, SendStops, SendsText, WritesRefusal, IsStep, EndsSo, EndsWhy, EndsWithin, Steps, EndsBroken, answered_so, idle_answered, stop_end}
use Rattle.pid_http_stream.specs.Serving.{ReplyNext, HeadNext, RefusalNext}
use Rattle.pid_http_stream.specs.Streams.{closes}
use Rattle.pid_http_stream.specs.Steps.Bodies.{Turns, SpendsTurns, idle_at}
use Rattle.pid_http_stream.specs.Reads.{ReaderState}
use Rattle.pid_http_stream.specs.declared.one_request.Asked.TheVariants as asked
use Rattle.pid_http_stream.specs.declared.body_input.BodyFault.{BodyFault}
use Rattle.pid_http_stream.specs.declared.body_input.BodyFault.TheVariants as faults
use Rattle.pid_http_stream.specs.declared.handler.HttpReply.{HttpReply}
use Rattle.pid_http_stream.specs.declared.intake.Stop.{Stop}
use Rattle.pid_http_stream.specs.declared.intake.Stop.TheVariants as stops
use Rattle.pid_http_stream.specs.declared.refusal.StreamFault.{StreamFault}
use Rattle.pid_http_stream.specs.declared.refusal.StreamFault.TheVariants.{BodyShort}
use Rattle.pid_http_stream.specs.declared.handler.BodyStop.{BodyStop}
use Rattle.pid_http_stream.specs.declared.handler.BodyStop.TheVariants.{Writer, Store}
use Rattle.pid_http_stream.specs.declared.stream.StreamEnd.{StreamEnd}
use Rattle.pid_http_stream.specs.declared.stream.StreamEnd.TheVariants as ends
use Rattle.pid_http_stream.proofs.BodyReads.{idle_turns}
use Rattle.pid_http_stream.proofs.Heads.{IsRequest-append}

-- bytes that are there were sent so far
pub text_sent : {H : Type 0} (conduct : Conduct H) (a b : H) (request : Request) (answer : Answer) (u v : Option (List ℕ)) (closing : Bool) (s : Result (Unit {0}) BodyStop) (write_fault : Option WriteFault)
    → SendsText s u v (reply_bytes answer closing) → SendStops s write_fault ⊥ → conduct.answers a request answer b
    → IsSent conduct (record { handler = a; handler_after = b; taken = u; taken_after = v }) (record { request = request; closing = closing }) s
text_sent conduct a b request answer u v closing (Ok x) write_fault sent stops is = (answer, is, sent)
text_sent conduct a b request answer u v closing (Err Writer) write_fault sent stops is = inl (answer, is, sent)
text_sent conduct a b request answer u v closing (Err Store) write_fault sent stops is = absurd stops.1

pub text_stops : (s : Result (Unit {0}) BodyStop) (write_fault : Option WriteFault) (stuck : Type 0) → SendStops s write_fault ⊥ → SendStops s write_fault stuck
text_stops (Ok x) write_fault stuck stops = tt
text_stops (Err Writer) write_fault stuck stops = stops
text_stops (Err Store) write_fault stuck stops = absurd stops.1

-- a reply that was sent so far is this step
sent_step : {H : Type 0} (conduct : Conduct H) (a c : H) (request : Request) (came more rest : List ℕ) (u v : Option (List ℕ)) (closing : Bool) (s : Result (Unit {0}) BodyStop) → IsRequest came request rest → closes request ≡ closing
    → IsSent conduct (record { handler = a; handler_after = c; taken = u; taken_after = v }) (record { request = request; closing = closing }) s → IsStep conduct (record { handler = a; handler_after = c; taken = u; taken_after = v }) (record { came = came; behind = rest; all = came ++ more }) (answered_so s closing)
sent_step conduct a c request came more rest u v true (Ok x) is e (answer, answered, written) =
    record { request = request; is = is; answer = answer; answered = answered; written = subst (λ (x : Bool). Appends u v (reply_bytes answer x)) (sym e) written; closes_so = e }
sent_step conduct a c request came more rest u v false (Ok x) is e (answer, answered, written) =
    record { request = request; is = is; answer = answer; answered = answered; written = subst (λ (x : Bool). Appends u v (reply_bytes answer x)) (sym e) written; closes_so = e }
sent_step conduct a c request came more rest u v closing (Err Writer) is e (inl (answer, answered, written)) =
    (reply_bytes answer closing, ReplyNext request (rest ++ more) answer (IsRequest-append came request rest more is) answered (ap (reply_bytes answer) (sym e)), written)
sent_step conduct a c request came more rest u v closing (Err Writer) is e (inr (head, content_length, promised, written)) =
    (reply_head head.status head.content content_length closing, HeadNext request (rest ++ more) head content_length (IsRequest-append came request rest more is) promised (ap (reply_head head.status head.content content_length) (sym e)), written)
sent_step conduct a c request came more rest u v closing (Err Store) is e cut = (request, rest ++ more, IsRequest-append came request rest more is, cut e)

if_known : (o : Option (List ℕ)) (P Q : Type 0) → (P → Q) → IfSome o (λ _. P) → IfSome o (λ _. Q)
if_known None P Q f p = tt
if_known (Some x) P Q f p = f p

pub replied_step : {H : Type 0} (conduct : Conduct H) (a b c : H) (input left u v : Option (List ℕ)) (held : List ℕ) (headers : List HeaderSpan) (spans : RequestSpans) (content_length : ℕ) (reply : HttpReply) (s : Result (Unit {0}) BodyStop) (closing : Bool)
    → IfSome input (λ _. AsksHandler conduct (record { a = a; b = b; input = input; input_after = left }) (record { held = held; headers = headers; spans = spans; content_length = content_length }) (asked.Reply reply))
    → ((x : H) (request : Request) → MayReply conduct x request reply b → IsSent conduct (record { handler = x; handler_after = c; taken = u; taken_after = v }) (record { request = request; closing = closing }) s)
    → ((head : RequestHead) → IsRequestAt held headers spans head → closing ≡ asks_to_close head.minor (fields_of head))
    → IfSome input (λ _. Steps conduct (record { handler = a; handler_after = c; taken = u; taken_after = v }) (record { input = input; input_after = left; held = held; held_after = drop (spans.len + content_length) held }) (answered_so s closing))
replied_step conduct a b c input left u v held headers spans content_length reply s closing asks sends closes_so = if_known input _ _ (λ x.
    record {
      came = x.came;
      more = x.more;
      before = x.before;
      after = x.after;
      is = sent_step conduct a c x.is.0 (held ++ x.came) x.more (drop (spans.len + content_length) held) u v closing s x.is.1 (sym (closes_so x.is.0.head x.is.2)) (sends a x.is.0 x.is.3);
    }) asks

-- memory was refused
pub memory_step : {H : Type 0} (conduct : Conduct H) (a b : H) (input left u : Option (List ℕ)) (held : List ℕ) (headers : List HeaderSpan) (spans : RequestSpans) (content_length : ℕ)
    → IfSome input (λ _. AsksHandler conduct (record { a = a; b = b; input = input; input_after = left }) (record { held = held; headers = headers; spans = spans; content_length = content_length }) asked.NoMemory)
    → IfSome input (λ _. Steps conduct (record { handler = a; handler_after = b; taken = u; taken_after = u }) (record { input = input; input_after = left; held = held; held_after = drop (spans.len + content_length) held }) (Err ends.Memory))
memory_step conduct a b input left u held headers spans content_length asks = if_known input _ _ (λ x.
    record { came = x.came; more = x.more; before = x.before; after = x.after; is = (x.is, refl) }) asks

no_more : (left : Option (List ℕ)) (came more : List ℕ) → left ≡ Some more → IsAtEnd left → came ++ more ≡ came
no_more left came more e end = let none : more ≡ [] = subst IsAtEnd e end in ap (λ (l : List ℕ). came ++ l) none ∙ append-nil came

short_ends : {H : Type 0} (conduct : Conduct H) (a b : H) (came behind all : List ℕ) (u v : Option (List ℕ)) (end : StreamEnd) → StandsOver conduct a all b → IsShort all → WritesRefusal BodyShort u v end → EndsWithin conduct (record { handler = a; handler_after = b; taken = u; taken_after = v }) (record { came = came; behind = behind; all = all }) end
short_ends conduct a b came behind all u v (ends.Refused fault) stands short (same, written) = (same, short, stands, written)
short_ends conduct a b came behind all u v ends.WriteFault stands short written = (reply_bytes (fault_answer BodyShort) true, RefusalNext BodyShort short refl (all, refl, stands), written)
short_ends conduct a b came behind all u v ends.Clean stands short r = absurd r
short_ends conduct a b came behind all u v ends.Closed stands short r = absurd r
short_ends conduct a b came behind all u v ends.ReadFault stands short r = absurd r
short_ends conduct a b came behind all u v ends.StoreFault stands short r = absurd r
short_ends conduct a b came behind all u v ends.Memory stands short r = absurd r
short_ends conduct a b came behind all u v ends.TurnsSpent stands short r = absurd r

-- the body broke off
pub broken_step : {H : Type 0} (conduct : Conduct H) (a b : H) (input left u v : Option (List ℕ)) (held : List ℕ) (headers : List HeaderSpan) (spans : RequestSpans) (content_length : ℕ) (fault : BodyFault) (end : StreamEnd)
    → IfSome input (λ _. AsksHandler conduct (record { a = a; b = b; input = input; input_after = left }) (record { held = held; headers = headers; spans = spans; content_length = content_length }) (asked.Broken fault)) → EndsBroken fault u v end
    → IfSome input (λ _. Steps conduct (record { handler = a; handler_after = b; taken = u; taken_after = v }) (record { input = input; input_after = left; held = held; held_after = drop (spans.len + content_length) held }) (Err end))
broken_step conduct a b input left u v held headers spans content_length faults.Short end asks r = if_known input _ _ (λ x.
    record {
      came = x.came;
      more = x.more;
      before = x.before;
      after = x.after;
      is = short_ends conduct a b (held ++ x.came) (drop (spans.len + content_length) held) ((held ++ x.came) ++ x.more) u v end (subst (λ (l : List ℕ). StandsOver conduct a l b) (sym (no_more left (held ++ x.came) x.more x.after x.is.1)) x.is.0) (subst IsShort (sym (no_more left (held ++ x.came) x.more x.after x.is.1)) x.is.2) r;
    }) asks
broken_step conduct a b input left u v held headers spans content_length faults.ReadFault end asks (e, same) = if_known input _ _ (λ x.
    record {
      came = x.came;
      more = x.more;
      before = x.before;
      after = x.after;
      is = subst (EndsWithin conduct (record { handler = a; handler_after = b; taken = u; taken_after = v }) (record { came = held ++ x.came; behind = drop (spans.len + content_length) held; all = (held ++ x.came) ++ x.more })) (sym e) (x.is, same);
    }) asks
broken_step conduct a b input left u v held headers spans content_length faults.TurnsSpent end asks (e, same) = if_known input _ _ (λ x.
    record {
      came = x.came;
      more = x.more;
      before = x.before;
      after = x.after;
      is = subst (EndsWithin conduct (record { handler = a; handler_after = b; taken = u; taken_after = v }) (record { came = held ++ x.came; behind = drop (spans.len + content_length) held; all = (held ++ x.came) ++ x.more })) (sym e) (x.is, same);
    }) asks

-- ---- why the stream ends

-- where the reply was sent so far
pub sent_ends : (x : LastState) (left : ℕ) (s : Result (Unit {0}) BodyStop) (closing : Bool) → x.after.fault ≡ x.before.fault → SendStops s x.write_fault x.stuck → EndsSo (answered_so s closing) left x
sent_ends x left (Ok k) true same stops = record { cause = tt; failed = inl same; spent = λ e. cc }
sent_ends x left (Ok k) false same stops = same
sent_ends x left (Err Writer) closing same stops = record { cause = stops; failed = inl same; spent = λ e. cc }
sent_ends x left (Err Store) closing same stops = record { cause = stops; failed = inl same; spent = λ e. cc }

pub sent_turns : (s : Result (Unit {0}) BodyStop) (closing : Bool) (a b : Turns) → SpendsTurns 0 a b → SpendsTurns (idle_answered (answered_so s closing)) a b
sent_turns (Ok k) true a b spent = spent
sent_turns (Ok k) false a b spent = spent
sent_turns (Err Writer) closing a b spent = idle_turns 1 a b spent
sent_turns (Err Store) closing a b spent = spent

pub memory_is_not_spent : {P : Type 0} → ends.Memory ≡ ends.TurnsSpent → P
memory_is_not_spent e = cc

pub clean_is_not_spent : {P : Type 0} → ends.Clean ≡ ends.TurnsSpent → P
clean_is_not_spent e = cc

-- where a refusal was written
pub refused_ends : (x : LastState) (left : ℕ) (fault : StreamFault) (u v : Option (List ℕ)) (end : StreamEnd) → x.after.fault ≡ x.before.fault → WritesRefusal fault u v end → (end ≡ ends.WriteFault → IsSome x.write_fault) → EndsWhy end left x
refused_ends x left fault u v (ends.Refused said) same r failed = record { cause = tt; failed = inl same; spent = λ e. cc }
refused_ends x left fault u v ends.WriteFault same r failed = record { cause = failed refl; failed = inl same; spent = λ e. cc }
refused_ends x left fault u v ends.Clean same r failed = absurd r
refused_ends x left fault u v ends.Closed same r failed = absurd r
refused_ends x left fault u v ends.ReadFault same r failed = absurd r
refused_ends x left fault u v ends.StoreFault same r failed = absurd r
refused_ends x left fault u v ends.Memory same r failed = absurd r
refused_ends x left fault u v ends.TurnsSpent same r failed = absurd r

pub refused_idle : (fault : StreamFault) (u v : Option (List ℕ)) (end : StreamEnd) → WritesRefusal fault u v end → idle_reads end ≡ 1
refused_idle fault u v (ends.Refused said) r = refl
refused_idle fault u v ends.WriteFault r = refl
refused_idle fault u v ends.Clean r = absurd r
refused_idle fault u v ends.Closed r = absurd r
refused_idle fault u v ends.ReadFault r = absurd r
refused_idle fault u v ends.StoreFault r = absurd r
refused_idle fault u v ends.Memory r = absurd r
refused_idle fault u v ends.TurnsSpent r = absurd r

-- where a body broke off
pub broken_ends : (x : LastState) (fault : BodyFault) (left : ℕ) (u v : Option (List ℕ)) (end : StreamEnd) → EndsBroken fault u v end → AskStops (asked.Broken fault) x.before.fault x.after.fault left → (end ≡ ends.WriteFault → IsSome x.write_fault) → EndsWhy end left x
broken_ends x faults.Short left u v end r why failed = refused_ends x left BodyShort u v end why r failed
broken_ends x faults.ReadFault left u v end (e, same) why failed = subst (λ k. EndsWhy k left x) (sym e) (record { cause = why; failed = inr refl; spent = λ f. cc })
broken_ends x faults.TurnsSpent left u v end (e, same) why failed = subst (λ k. EndsWhy k left x) (sym e) (record { cause = tt; failed = inl why.1; spent = λ f. why.0 })

pub broken_idle : (fault : BodyFault) (u v : Option (List ℕ)) (end : StreamEnd) → EndsBroken fault u v end → idle_reads end ≡ idle_at (Some fault)
broken_idle faults.Short u v end r = refused_idle BodyShort u v end r
broken_idle faults.ReadFault u v end (e, same) = ap idle_reads e
broken_idle faults.TurnsSpent u v end (e, same) = ap idle_reads e

-- no turn came back
pub fewer_turns : (n : ℕ) (a b : Turns) → SpendsTurns n a b → b.left ≤ a.left
fewer_turns n a b spends = omega (arith, spends.spent)

-- where reading stopped
pub stopped_ends : (x : LastState) (stop : Stop) (left : ℕ) → StopsFor stop x.before.fault x.after.fault left → EndsWhy (stop_end stop) left x
stopped_ends x stops.ReadFault left why = record { cause = why; failed = inr refl; spent = λ e. cc }
stopped_ends x stops.TurnsSpent left why = record { cause = tt; failed = inl why.1; spent = λ e. why.0 }
stopped_ends x stops.Memory left why = record { cause = tt; failed = inl why; spent = λ e. cc }

pub stopped_idle : (stop : Stop) → idle_reads (stop_end stop) ≡ idle_stop stop
stopped_idle stops.ReadFault = refl
stopped_idle stops.TurnsSpent = refl
stopped_idle stops.Memory = refl

-- by the reads from the start, and by why it ends then
pub ends_for : (x : LastState) (end : StreamEnd) (left : ℕ) → SpendsTurns (idle_reads end) (record { reader = x.before; left = x.turns }) (record { reader = x.after; left = left }) → EndsWhy end left x → EndsFor end x
ends_for x end left spends why = record {
  made = spends.made;
  within = omega (arith, spends.spent);
  spent = λ e. let none = why.spent e in omega (arith, spends.spent, none);
  reads = spends.reads;
  cause = why.cause;
  failed = why.failed;
}

-- the same, if the reader was read before and had not failed
cause_later : (x y : LastState) → y.after ≡ x.after → y.write_fault ≡ x.write_fault → (x.stuck → y.stuck) → (end : StreamEnd) → HasEndCause end x → HasEndCause end y
cause_later x y after write stuck ends.Clean why = tt
cause_later x y after write stuck ends.Closed why = tt
cause_later x y after write stuck (ends.Refused fault) why = tt
cause_later x y after write stuck ends.ReadFault why = subst (λ (r : ReaderState). IsSome r.fault) (sym after) why
cause_later x y after write stuck ends.WriteFault why = subst (λ (f : Option WriteFault). IsSome f) (sym write) why
cause_later x y after write stuck ends.StoreFault why = (write ∙ why.0, stuck why.1)
cause_later x y after write stuck ends.Memory why = tt
cause_later x y after write stuck ends.TurnsSpent why = tt

failed_later : (bf mf rf : Option ReadFault) (P : Type 0) → mf ≡ bf → (rf ≡ mf) ⊎ P → (rf ≡ bf) ⊎ P
failed_later bf mf rf P e (inl same) = inl (same ∙ e)
failed_later bf mf rf P e (inr p) = inr p

pub why_later : (first mid last : ReaderState) (wf : Option WriteFault) (stuck : Type 0) (turns later left : ℕ) → mid.fault ≡ first.fault → (end : StreamEnd)
    → EndsWhy end left (record { before = mid; after = last; write_fault = wf; stuck = stuck; turns = later })
    → EndsWhy end left (record { before = first; after = last; write_fault = wf; stuck = stuck; turns = turns })
why_later first mid last wf stuck turns later left e end x = record {
  cause = cause_later (record { before = mid; after = last; write_fault = wf; stuck = stuck; turns = later }) (record { before = first; after = last; write_fault = wf; stuck = stuck; turns = turns }) refl refl (λ s. s) end x.cause;
  failed = failed_later first.fault mid.fault last.fault (end ≡ ends.ReadFault) e x.failed;
  spent = x.spent;
}
