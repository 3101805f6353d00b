-- What is read and written when the requests of a stream are answered in turn, by each way in
-- which that may end.
use Rattle.std.specs.Prelude.{◌≡◌, ℕ, ◌+◌, ◌-◌, ◌^◌, ◌≤◌, ◌⊎◌, min, true, List, []}
use Rattle.std.specs.Prelude.{◌++◌, length, take, Option, Some}
use Rattle.std.specs.Io.KnownBytes.{Appends, Consumes}
use Rattle.pid_http_stream.specs.Conducts.{Conduct, StandsOver, AreReplies}
use Rattle.pid_http_stream.specs.Endings.{HasFault}
use Rattle.pid_http_stream.specs.Moments.{Moment}
use Rattle.pid_http_stream.specs.Replies.{Answer, answer_after, reply_head, reply_bytes}
use Rattle.pid_http_stream.specs.Replies.{fault_answer}
use Rattle.pid_http_stream.specs.Requests.{Request, IsRequest}
use Rattle.pid_http_stream.specs.Streams.{closes, Ending, clean, closed, faulty, Fronts, Splits}
use Rattle.pid_http_stream.specs.Unfinished.{IsUnfinished}
use Rattle.pid_http_stream.specs.declared.refusal.StreamFault.{StreamFault}
use Rattle.pid_http_stream.specs.declared.refusal.StreamFault.TheVariants.{BodyShort}
use Rattle.pid_http_stream.specs.declared.reply_head.ReplyHead.{ReplyHead}
use Rattle.pid_http_stream.specs.declared.stream.StreamEnd.{StreamEnd}
use Rattle.pid_http_stream.specs.declared.stream.StreamEnd.TheVariants.{Clean, Closed, Refused}
use Rattle.pid_http_stream.specs.declared.stream.StreamEnd.TheVariants.{ReadFault, WriteFault}
use Rattle.pid_http_stream.specs.declared.stream.StreamEnd.TheVariants.{StoreFault, Memory}
use Rattle.pid_http_stream.specs.declared.stream.StreamEnd.TheVariants.{TurnsSpent}

-- a count that stops at its greatest value
abbrev pub saturated : ℕ → ℕ
saturated n = min n (2 ^ 64 - 1)

-- before and after: the handler, and what the writer had taken
pub record Outside (H : Type 0) : Type 0 where
  pub handler : H
  pub handler_after : H
  pub taken : Option (List ℕ)
  pub taken_after : Option (List ℕ)

abbrev pub outside : {H : Type 0} → H → H → Option (List ℕ) → Option (List ℕ) → Outside H
outside a b old new = record { handler = a; handler_after = b; taken = old; taken_after = new }

-- a prefix of the bytes was written, perhaps all of them
abbrev pub WritesFront : Option (List ℕ) → Option (List ℕ) → List ℕ → Type 0
WritesFront old new bytes = (n : ℕ) × (n ≤ length bytes) × Appends old new (take n bytes)

-- After the last request the handler is as it was. Only if a body is short may it have been asked,
-- for the request with which the rest begins; this says which bytes are the rest.
abbrev pub RestsAfter : {H : Type 0} → Conduct H → Ending → (List ℕ → Type 0) → H → H → Type 0
RestsAfter conduct (faulty BodyShort) IsRest a b = (rest : List ℕ) × IsRest rest
    × StandsOver conduct a rest b
RestsAfter conduct ending IsRest a b = a ≡ b

-- the whole stream was answered, and then this was written
pub record AnswersAll {H : Type 0} (conduct : Conduct H) (o : Outside H) (stream : List ℕ)
    (ending : Ending) (tail : List ℕ) (count : ℕ) : Type 0 where
  pub requests : List Request
  pub replies : List ℕ
  pub last : H
  pub splits : Splits stream requests ending
  pub answered : AreReplies conduct o.handler requests replies last
  pub rests : RestsAfter conduct ending (Fronts stream requests) last o.handler_after
  pub written : Appends o.taken o.taken_after (replies ++ tail)
  pub counts : count ≡ saturated (length requests)

-- the first requests of the stream were answered, up to this rest
pub record AnswersFront {H : Type 0} (conduct : Conduct H) (o : Outside H) (stream rest : List ℕ)
    (count : ℕ) : Type 0 where
  pub requests : List Request
  pub replies : List ℕ
  pub fronts : Fronts stream requests rest
  pub answered : AreReplies conduct o.handler requests replies o.handler_after
  pub written : Appends o.taken o.taken_after replies
  pub counts : count ≡ saturated (length requests)

-- the first requests of these bytes were answered, and then this came of the rest
pub record AnswersThen {H : Type 0} (conduct : Conduct H) (o : Outside H) (bytes : List ℕ)
    (count : ℕ) (Then : List ℕ → Outside H → Type 0) : Type 0 where
  pub rest : List ℕ
  pub mid : H
  pub taken : Option (List ℕ)
  pub before : AnswersFront conduct (outside o.handler mid o.taken taken) bytes rest count
  pub next : Then rest (outside mid o.handler_after taken o.taken_after)

-- the same of what was read of the stream, where nothing was written of the rest
abbrev pub ReadsThen : {H : Type 0} → Conduct H → Outside H → List ℕ → Option (List ℕ) → ℕ
    → (H → List ℕ → H → Type 0) → Type 0
ReadsThen conduct o stream left count Then =
    (read : List ℕ) × Consumes (Some stream) left read × AnswersThen conduct o read count
    (λ rest p. Then p.handler rest p.handler_after × (p.taken_after ≡ p.taken))

-- what is written next
pub data IsWrittenNext {H : Type 0} (conduct : Conduct H) (a : H) (rest bytes : List ℕ) (b : H)
    : Type 0 where
  -- the reply to the request with which the rest begins
  ReplyNext : (request : Request) (behind : List ℕ) (answer : Answer)
      → IsRequest rest request behind → conduct.answers a request answer b
      → bytes ≡ reply_bytes answer (closes request) → IsWrittenNext conduct a rest bytes b
  -- the head of a reply to it, whose body the handler promised to write and was not asked for
  HeadNext : (request : Request) (behind : List ℕ) (head : ReplyHead) (content_length : ℕ)
      → IsRequest rest request behind → conduct.promises a request head content_length b
      → bytes ≡ reply_head head.status head.content content_length (closes request)
      → IsWrittenNext conduct a rest bytes b
  -- the refusal of the rest
  RefusalNext : (fault : StreamFault) → HasFault rest fault
      → bytes ≡ reply_bytes (fault_answer fault) true
      → RestsAfter conduct (faulty fault) (λ r. r ≡ rest) a b → IsWrittenNext conduct a rest bytes b

-- a prefix of that was written
abbrev pub IsCutInReply : {H : Type 0} → Conduct H → List ℕ → Outside H → Type 0
IsCutInReply conduct rest o = (bytes : List ℕ)
    × IsWrittenNext conduct o.handler rest bytes o.handler_after
    × WritesFront o.taken o.taken_after bytes

-- a reply was cut within its body: the handler promised to write that itself, after this head and
-- of so many bytes; the head was written whole, and then a prefix of the body
pub record IsCutInBody {H : Type 0} (conduct : Conduct H) (request : Request) (o : Outside H)
    : Type 0 where
  pub head : ReplyHead
  pub content_length : ℕ
  pub middle : H
  pub promised : conduct.promises o.handler request head content_length middle
  pub body : List ℕ
  pub answered : conduct.answers o.handler request (answer_after head content_length body) o.handler_after
  pub count : ℕ
  pub front : count ≤ length body
  pub written : Appends o.taken o.taken_after
      (reply_head head.status head.content content_length (closes request) ++ take count body)

-- so was the reply to the request with which the rest begins
abbrev pub IsCutNext : {H : Type 0} → Conduct H → List ℕ → Outside H → Type 0
IsCutNext conduct rest o = (request : Request) × (behind : List ℕ)
    × IsRequest rest request behind × IsCutInBody conduct request o

-- no request was answered of what had come, which is one that has not come whole
abbrev pub WaitsOver : {H : Type 0} → Conduct H → H → List ℕ → H → Type 0
WaitsOver conduct a came b = StandsOver conduct a came b × IsUnfinished came

-- memory ran out over what had come: a request that had not come whole, or one that had, for which
-- the handler may have run out of it
abbrev pub RunsOut : {H : Type 0} → Conduct H → H → List ℕ → H → Type 0
RunsOut conduct a came b = WaitsOver conduct a came b
    ⊎ ((request : Request) × (behind : List ℕ) × IsRequest came request behind
    × (StandsOver conduct a came b ⊎ conduct.leaves a request b))

-- a reader was read at this moment, as pipelining wants it (RFC 9112, section 9.3.2): the first
-- requests of what had come were answered, and the writer had taken the replies; after them came
-- no whole request and nothing that is refused: a request that had not come whole
abbrev pub IsCaughtUp : {H : Type 0} → Conduct H → H → Option (List ℕ) → List ℕ → Moment → Type 0
IsCaughtUp {H} conduct start taken stream m = (last : H) × (count : ℕ) × ReadsThen conduct
    (outside start last taken m.taken) stream m.to_come count
    (λ a rest b. (a ≡ b) × IsUnfinished rest)

-- The stream was served, and so many replies were written whole: what is known at each end. A
-- refusal is one reply more.
abbrev pub IsServed : {H : Type 0} → Conduct H → Outside H → List ℕ → Option (List ℕ) → StreamEnd
    → ℕ → Type 0
IsServed conduct o stream left Clean count = AnswersAll conduct o stream clean [] count
IsServed conduct o stream left Closed count = AnswersAll conduct o stream closed [] count
IsServed conduct o stream left (Refused fault) count = (answered : ℕ)
    × AnswersAll conduct o stream (faulty fault) (reply_bytes (fault_answer fault) true) answered
    × (count ≡ saturated (answered + 1))
IsServed conduct o stream left ReadFault count = ReadsThen conduct o stream left count
    (WaitsOver conduct)
IsServed conduct o stream left TurnsSpent count = ReadsThen conduct o stream left count
    (WaitsOver conduct)
IsServed conduct o stream left Memory count = ReadsThen conduct o stream left count
    (RunsOut conduct)
IsServed conduct o stream left WriteFault count = AnswersThen conduct o stream count
    (IsCutInReply conduct)
IsServed conduct o stream left StoreFault count = AnswersThen conduct o stream count
    (IsCutNext conduct)
