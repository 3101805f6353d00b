-- What a handler answers to one call.
use Rattle.std.specs.Prelude.{ℕ, ◌⊎◌, List, Option, Result, MatchResult}
use Rattle.std.specs.Io.KnownBytes.{Appends, IsAtEnd}
use Rattle.pid_http_stream.specs.Conducts.{Conduct, StandsStill}
use Rattle.pid_http_stream.specs.Replies.{answer_with}
use Rattle.pid_http_stream.specs.Requests.{Request}
use Rattle.pid_http_stream.specs.Serving.{WritesFront}
use Rattle.pid_http_stream.specs.declared.reply_head.ReplyHead.{ReplyHead}
use Rattle.pid_http_stream.specs.declared.handler.HttpReply.{HttpReply}
use Rattle.pid_http_stream.specs.declared.handler.ReplyBody.{ReplyBody}
use Rattle.pid_http_stream.specs.declared.handler.ReplyBody.TheVariants.{Bytes, Written}

-- the body is there, and the reply is an answer; or the handler promises to write it
abbrev pub IsBodyFor : {H : Type 0} → Conduct H → H → Request → ReplyHead → ReplyBody → H → Type 0
IsBodyFor conduct a request head (Bytes body) b = conduct.answers a request
    (answer_with head.status head.content body.items) b
IsBodyFor conduct a request head (Written content_length) b = conduct.promises a request head content_length b

-- the handler may reply so
abbrev pub MayReply : {H : Type 0} → Conduct H → H → Request → HttpReply → H → Type 0
MayReply conduct a request reply b = IsBodyFor conduct a request reply.head reply.body b

-- a reply was made; or the request was given up, or its body came whole and memory ran out. left:
-- what is left of its body
abbrev pub IsHandled : {H E : Type 0} → Conduct H → H → Request → Result HttpReply E
    → Option (List ℕ) → H → Type 0
IsHandled conduct a request result left b =
    MatchResult result (λ reply. MayReply conduct a request reply b)
    (λ _. StandsStill conduct a request.head b ⊎ (IsAtEnd left × conduct.leaves a request b))

-- the body was written whole; or a prefix of it
abbrev pub WritesBody : {X E : Type 0} → Result X E → Option (List ℕ) → Option (List ℕ) → List ℕ
    → Type 0
WritesBody result old new body = MatchResult result (λ _. Appends old new body)
    (λ _. WritesFront old new body)
