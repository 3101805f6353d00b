-- What the steps of the serving loop do.
use Rattle.std.specs.Prelude.{◌≡◌, ℕ, ◌+◌, ◌⊎◌, Bool, true, false, List, ◌++◌, drop, Option, Some}
use Rattle.std.specs.Prelude.{None, IfErr, IfSome, IsSome, Result, Ok, Err, ◌==◌, if◌then◌else◌, ⊤}
use Rattle.pid_file.specs.Sending.{Sends}
use Rattle.pid_file.specs.Writing.{WriterUse}
use Rattle.pid_file.specs.declared.io.Output.{Ghosts as Writing}
use Rattle.pid_file.specs.declared.io.WriteFault.{WriteFault}
use Rattle.pid_ident.specs.declared.incoming.Incoming.{Ghosts as Reading}
use Rattle.std.specs.Io.KnownBytes.{Appends, IsAtEnd}
use Rattle.httparse.specs.Spans.{IsRequestAt}
use Rattle.httparse.specs.declared.spans.HeaderSpan.{HeaderSpan}
use Rattle.httparse.specs.declared.spans.RequestSpans.{RequestSpans}
use Rattle.pid_http_stream.specs.Causes.{LastState, HasEndCause, idle_reads}
use Rattle.pid_http_stream.specs.Conducts.{Conduct, StandsOver}
use Rattle.pid_http_stream.specs.Endings.{HasFault, IsShort}
use Rattle.pid_http_stream.specs.Handling.{MayReply}
use Rattle.pid_http_stream.specs.Replies.{Answer, reply_head, reply_bytes, fault_answer}
use Rattle.pid_http_stream.specs.Requests.{Request, IsRequest}
use Rattle.pid_http_stream.specs.Serving.{saturated, Outside, WritesFront, IsCutInReply}
use Rattle.pid_http_stream.specs.Serving.{IsCutInBody, IsCutNext, RunsOut, WaitsOver}
use Rattle.pid_http_stream.specs.Leading.{Leads}
use Rattle.pid_http_stream.specs.Moments.{AllSince}
use Rattle.pid_http_stream.specs.OneStream.{Answering}
use Rattle.pid_http_stream.specs.Reads.{reader_at}
use Rattle.pid_http_stream.specs.Serving.{outside}
use Rattle.pid_http_stream.specs.Steps.Bodies.{SpendsTurns, turns_at}
use Rattle.pid_http_stream.specs.Steps.Intakes.{AskStops, StandsAt, WaitsForRequest, idle_asked}
use Rattle.pid_http_stream.specs.Streams.{closes}
use Rattle.pid_http_stream.specs.declared.refusal.StreamFault.{StreamFault}
use Rattle.pid_http_stream.specs.declared.refusal.StreamFault.TheVariants.{BodyShort}
use Rattle.pid_http_stream.specs.declared.body_input.BodyFault.{BodyFault}
use Rattle.pid_http_stream.specs.declared.body_input.BodyFault.TheVariants as faults
use Rattle.pid_http_stream.specs.declared.handler.BodyStop.{BodyStop}
use Rattle.pid_http_stream.specs.declared.handler.BodyStop.TheVariants.{Writer, Store}
use Rattle.pid_http_stream.specs.declared.handler.HttpReply.{HttpReply}
use Rattle.pid_http_stream.specs.declared.head.Head.{Head}
use Rattle.pid_http_stream.specs.declared.reply_head.ReplyHead.{ReplyHead}
use Rattle.pid_http_stream.specs.declared.one_request.Asked.{Asked}
use Rattle.pid_http_stream.specs.declared.one_request.Asked.TheVariants as asked
use Rattle.pid_http_stream.specs.declared.intake.Stop.{Stop}
use Rattle.pid_http_stream.specs.declared.intake.Stop.TheVariants as stops
use Rattle.pid_http_stream.specs.declared.stream.StreamEnd.{StreamEnd}
use Rattle.pid_http_stream.specs.declared.stream.StreamEnd.TheVariants as ends

-- before and after the handler was asked: the handler, and the reader's bytes to come
pub record Around (H : Type 0) : Type 0 where
  pub a : H
  pub b : H
  pub input : Option (List ℕ)
  pub input_after : Option (List ℕ)

abbrev pub around : {H : Type 0} → H → H → Option (List ℕ) → Option (List ℕ) → Around H
around a b old new = record { a = a; b = b; input = old; input_after = new }

-- a head that begins the bytes held: where its parts are, and the length that it says of its body
pub record FrontHead : Type 0 where
  pub held : List ℕ
  pub headers : List HeaderSpan
  pub spans : RequestSpans
  pub content_length : ℕ

-- a head over its bytes, whose body has so many
abbrev pub front_head : Head → ℕ → FrontHead
front_head head n = record {
  held = head.bytes.now;
  headers = head.fields.now;
  spans = head.spans;
  content_length = n;
}

-- the bytes begin with this head, which says that its body has so many bytes
abbrev pub HeadStands : Head → ℕ → Type 0
HeadStands head n = StandsAt head.bytes.now head.fields.now head.spans n

-- what is held after the request that has this head
abbrev pub held_behind : FrontHead → List ℕ
held_behind f = drop (f.spans.len + f.content_length) f.held

-- the head of a request, and what came of its body from the reader
pub record Coming : Type 0 where
  pub front : FrontHead
  pub came : List ℕ

-- the request with this head came whole
abbrev pub HasCome : Coming → Request → Type 0
HasCome c request = IsRequest (c.front.held ++ c.came) request (held_behind c.front)

-- what is known of the handler and of the request when it was asked
abbrev pub IsAskedOver : {H : Type 0} → Conduct H → Around H → Coming → Asked → Type 0
IsAskedOver conduct o c (asked.Reply reply) = (request : Request) × HasCome c request
    × IsRequestAt c.front.held c.front.headers c.front.spans request.head
    × MayReply conduct o.a request reply o.b
IsAskedOver conduct o c asked.NoMemory = RunsOut conduct o.a (c.front.held ++ c.came) o.b
IsAskedOver conduct o c (asked.Broken faults.Short) =
    StandsOver conduct o.a (c.front.held ++ c.came) o.b × IsAtEnd o.input_after
    × IsShort (c.front.held ++ c.came)
IsAskedOver conduct o c (asked.Broken faults.ReadFault) =
    WaitsOver conduct o.a (c.front.held ++ c.came) o.b
IsAskedOver conduct o c (asked.Broken faults.TurnsSpent) =
    WaitsOver conduct o.a (c.front.held ++ c.came) o.b

-- the handler was asked, and this came for the body
pub record AsksHandler {H : Type 0} (conduct : Conduct H) (o : Around H) (front : FrontHead)
    (result : Asked) : Type 0 where
  pub came : List ℕ
  pub more : List ℕ
  pub before : o.input ≡ Some (came ++ more)
  pub after : o.input_after ≡ Some more
  pub is : IsAskedOver conduct o (record { front = front; came = came }) result

-- what answers requests, the reader and the writer of a stream, and how often that reader may still
-- be read
pub record Attending (A I W : Type 0) : Type 0 where
  pub handler : A
  pub input : I
  pub output : W
  pub left : ℕ

abbrev pub attending : {A I W : Type 0} → A → I → W → ℕ → Attending A I W
attending handler input output left =
    record { handler = handler; input = input; output = output; left = left }

-- the handler was asked for what this head begins
pub record AsksOver {A V I W : Type 0} (answerer : Answering A V) (reader : Reading I W)
    (writer : Writing W) (front : FrontHead) (a b : Attending A I W) (result : Asked)
    : Type 0 where
  pub becomes : answerer.becomes a.handler b.handler
  pub asked : Leads answerer.is_good answerer.stands a.handler b.handler
      (λ v w. IfSome (reader.to_come a.input) (λ _. AsksHandler answerer.conduct
      (around v w (reader.to_come a.input) (reader.to_come b.input)) front result))
  pub turns : SpendsTurns (idle_asked result) (turns_at reader a.input a.left)
      (turns_at reader b.input b.left)
  pub waits : AllSince
      (WaitsForRequest front.held (reader.to_come a.input) (writer.taken a.output))
      (reader.moments a.input) (reader.moments b.input)
  pub stopped : AskStops result (reader.read_fault a.input) (reader.read_fault b.input) b.left
  pub goes : reader.goes a.input b.input

-- all of the bytes were sent, or the writer keeps its fault
pub record SendsAll {X : Type 0} (w : WriterUse) (bytes : List ℕ) (result : Result X WriteFault)
    : Type 0 where
  pub sent : Sends result w.before w.after bytes
  pub fault : IfErr result (λ f. w.fault ≡ Some f)

-- the bytes were written, whole or a prefix of them
abbrev pub SendsText : Result (Unit {0}) BodyStop → Option (List ℕ) → Option (List ℕ) → List ℕ → Type 0
SendsText (Ok x) old new bytes = Appends old new bytes
SendsText (Err stop) old new bytes = WritesFront old new bytes

-- a request, and whether the stream ends after its reply
pub record Replied : Type 0 where
  pub request : Request
  pub closing : Bool

abbrev pub replied : Request → Bool → Replied
replied request closing = record { request = request; closing = closing }

-- an answer was written, a prefix of one, or a prefix of the head of one whose body was not asked
-- for; or it was cut in its body
abbrev pub IsSent : {H : Type 0} → Conduct H → Outside H → Replied → Result (Unit {0}) BodyStop → Type 0
IsSent conduct o r (Ok x) = (answer : Answer)
    × conduct.answers o.handler r.request answer o.handler_after
    × Appends o.taken o.taken_after (reply_bytes answer r.closing)
IsSent conduct o r (Err Writer) =
    ((answer : Answer) × conduct.answers o.handler r.request answer o.handler_after
    × WritesFront o.taken o.taken_after (reply_bytes answer r.closing))
    ⊎ ((head : ReplyHead) × (content_length : ℕ)
    × conduct.promises o.handler r.request head content_length o.handler_after
    × WritesFront o.taken o.taken_after (reply_head head.status head.content content_length r.closing))
IsSent conduct o r (Err Store) = closes r.request ≡ r.closing → IsCutInBody conduct r.request o

-- why it was not sent whole, by the fault that the writer keeps, and what the handler says of itself
abbrev pub SendStops : Result (Unit {0}) BodyStop → Option WriteFault → Type 0 → Type 0
SendStops (Ok x) write_fault stuck = ⊤
SendStops (Err Writer) write_fault stuck = IsSome write_fault
SendStops (Err Store) write_fault stuck = (write_fault ≡ None) × stuck

-- a reply was sent to a request to which it may be one
pub record SendsReply {A V : Type 0} (answerer : Answering A V)
    (May : V → Request → V → Type 0) (closing : Bool) (w : WriterUse) (old new : A)
    (result : Result (Unit {0}) BodyStop)
    : Type 0 where
  pub becomes : answerer.becomes old new
  pub sent : Leads answerer.is_good answerer.stands old new
      (λ v z. (a : V) (request : Request) → May a request v
      → IsSent answerer.conduct (outside a z w.before w.after) (replied request closing) result)
  pub stops : SendStops result w.fault (answerer.cannot_go_on new)

-- a refusal was written, whole or a prefix of it
abbrev pub WritesRefusal : StreamFault → Option (List ℕ) → Option (List ℕ) → StreamEnd → Type 0
WritesRefusal fault old new (ends.Refused said) = (said ≡ fault)
    × Appends old new (reply_bytes (fault_answer fault) true)
WritesRefusal fault old new ends.WriteFault = WritesFront old new
    (reply_bytes (fault_answer fault) true)
WritesRefusal fault old new end = ⊥

-- how the stream ends if a body broke off
abbrev pub EndsBroken : BodyFault → Option (List ℕ) → Option (List ℕ) → StreamEnd → Type 0
EndsBroken faults.Short old new end = WritesRefusal BodyShort old new end
EndsBroken faults.ReadFault old new end = (end ≡ ends.ReadFault) × (new ≡ old)
EndsBroken faults.TurnsSpent old new end = (end ≡ ends.TurnsSpent) × (new ≡ old)

-- what is refused for this ends the stream so
pub record EndsRefused (why : StreamFault) (w : WriterUse) (end : StreamEnd) : Type 0 where
  pub refused : WritesRefusal why w.before w.after end
  pub fault : end ≡ ends.WriteFault → IsSome w.fault

-- a body that broke off for this ends it so
pub record BreaksOff (why : BodyFault) (w : WriterUse) (end : StreamEnd) : Type 0 where
  pub ended : EndsBroken why w.before w.after end
  pub fault : end ≡ ends.WriteFault → IsSome w.fault

-- the bytes of a step: what was held and what came for a request, what of it is held after that,
-- and all that is left of the stream
pub record Portion : Type 0 where
  pub came : List ℕ
  pub behind : List ℕ
  pub all : List ℕ

-- a request was answered, and its reply written
pub record IsReplied {H : Type 0} (conduct : Conduct H) (o : Outside H) (p : Portion)
    (closing : Bool) : Type 0 where
  pub request : Request
  pub is : IsRequest p.came request p.behind
  pub answer : Answer
  pub answered : conduct.answers o.handler request answer o.handler_after
  pub written : Appends o.taken o.taken_after (reply_bytes answer (closes request))
  pub closes_so : closes request ≡ closing

-- the stream ends with a request, or within it
abbrev pub EndsWithin : {H : Type 0} → Conduct H → Outside H → Portion → StreamEnd → Type 0
EndsWithin conduct o p ends.Closed = IsReplied conduct o p true
EndsWithin conduct o p ends.StoreFault = IsCutNext conduct p.all o
EndsWithin conduct o p ends.WriteFault = IsCutInReply conduct p.all o
EndsWithin conduct o p (ends.Refused fault) = (fault ≡ BodyShort) × HasFault p.all BodyShort
    × StandsOver conduct o.handler p.all o.handler_after
    × Appends o.taken o.taken_after (reply_bytes (fault_answer BodyShort) true)
EndsWithin conduct o p ends.ReadFault = WaitsOver conduct o.handler p.came o.handler_after
    × (o.taken_after ≡ o.taken)
EndsWithin conduct o p ends.TurnsSpent = WaitsOver conduct o.handler p.came o.handler_after
    × (o.taken_after ≡ o.taken)
EndsWithin conduct o p ends.Memory = RunsOut conduct o.handler p.came o.handler_after
    × (o.taken_after ≡ o.taken)
EndsWithin conduct o p ends.Clean = ⊥

-- what became of the request: it was answered and the stream goes on, or the stream ends
abbrev pub IsStep : {H : Type 0} → Conduct H → Outside H → Portion → Result (Unit {0}) StreamEnd → Type 0
IsStep conduct o p (Ok x) = IsReplied conduct o p false
IsStep conduct o p (Err end) = EndsWithin conduct o p end

-- before and after a step: the reader's bytes to come, and what is held
pub record Taken : Type 0 where
  pub input : Option (List ℕ)
  pub input_after : Option (List ℕ)
  pub held : List ℕ
  pub held_after : List ℕ

-- the request that has this head was taken of what is held
abbrev pub taken_of : Head → ℕ → Option (List ℕ) → Option (List ℕ) → Taken
taken_of head n input after = record {
  input = input;
  input_after = after;
  held = head.bytes.now;
  held_after = drop (head.spans.len + n) head.bytes.now;
}

-- of what was taken: this came of a request, and this was left of the stream
abbrev pub portion_of : Taken → List ℕ → List ℕ → Portion
portion_of t came more =
    record { came = t.held ++ came; behind = t.held_after; all = (t.held ++ came) ++ more }

-- one request was served
pub record Steps {H : Type 0} (conduct : Conduct H) (o : Outside H) (t : Taken)
    (result : Result (Unit {0}) StreamEnd) : Type 0 where
  pub came : List ℕ
  pub more : List ℕ
  pub before : t.input ≡ Some (came ++ more)
  pub after : t.input_after ≡ Some more
  pub is : IsStep conduct o (portion_of t came more) result

-- why the stream ends: there is a cause, a reader that failed ends it so, and no turn is left if it
-- ends by them
pub record EndsWhy (end : StreamEnd) (left : ℕ) (s : LastState) : Type 0 where
  pub cause : HasEndCause end s
  pub failed : (s.after.fault ≡ s.before.fault) ⊎ (end ≡ ends.ReadFault)
  pub spent : end ≡ ends.TurnsSpent → left ≡ 0

-- if the stream ends with the request, it is known why; if not, the reader has not failed
abbrev pub EndsSo : Result (Unit {0}) StreamEnd → ℕ → LastState → Type 0
EndsSo (Ok x) left s = s.after.fault ≡ s.before.fault
EndsSo (Err end) left s = EndsWhy end left s

-- how many reads may be idle if this became of a request
abbrev pub idle_answered : Result (Unit {0}) StreamEnd → ℕ
idle_answered (Ok x) = 0
idle_answered (Err end) = idle_reads end

-- the request that has this head was served
pub record ServesRequest {A V I W : Type 0} (answerer : Answering A V) (reader : Reading I W)
    (writer : Writing W) (head : Head) (content_length : ℕ) (a b : Attending A I W)
    (result : Result (Unit {0}) StreamEnd)
    : Type 0 where
  pub becomes : answerer.becomes a.handler b.handler
  pub stepped : Leads answerer.is_good answerer.stands a.handler b.handler
      (λ v w. IfSome (reader.to_come a.input) (λ _. Steps answerer.conduct
      (outside v w (writer.taken a.output) (writer.taken b.output))
      (taken_of head content_length (reader.to_come a.input) (reader.to_come b.input)) result))
  pub turns : SpendsTurns (idle_answered result) (turns_at reader a.input a.left)
      (turns_at reader b.input b.left)
  pub waits : AllSince
      (WaitsForRequest head.bytes.now (reader.to_come a.input) (writer.taken a.output))
      (reader.moments a.input) (reader.moments b.input)
  pub ended : EndsSo result b.left (record {
    before = reader_at reader a.input;
    after = reader_at reader b.input;
    write_fault = writer.write_fault b.output;
    stuck = answerer.cannot_go_on b.handler;
    turns = a.left;
  })
  pub goes : reader.goes a.input b.input

-- what becomes of a request whose reply was sent so far
abbrev pub answered_so : Result (Unit {0}) BodyStop → Bool → Result (Unit {0}) StreamEnd
answered_so (Ok x) true = Err ends.Closed
answered_so (Ok x) false = Ok x
answered_so (Err Writer) closing = Err ends.WriteFault
answered_so (Err Store) closing = Err ends.StoreFault

-- how a stream ends if reading stops
abbrev pub stop_end : Stop → StreamEnd
stop_end stops.ReadFault = ends.ReadFault
stop_end stops.TurnsSpent = ends.TurnsSpent
stop_end stops.Memory = ends.Memory

-- what a handler's result is if the body is whole
abbrev pub whole_so : {E : Type 0} → Result HttpReply E → Asked
whole_so (Ok reply) = asked.Reply reply
whole_so (Err e) = asked.NoMemory

-- and if it is not
abbrev pub broken_so : Option BodyFault → Asked
broken_so None = asked.NoMemory
broken_so (Some fault) = asked.Broken fault

-- what came of asking it, by how much of the body is still wanted
abbrev pub asked_so : {E : Type 0} → Result HttpReply E → ℕ → Option BodyFault → Asked
asked_so result wanted fault = if wanted == 0 then whole_so result else broken_so fault

-- how many replies were written, with the one that ends the stream
abbrev pub count_with : StreamEnd → ℕ → ℕ
count_with ends.Closed count = saturated (count + 1)
count_with (ends.Refused fault) count = saturated (count + 1)
count_with end count = count
