-- What a handler of requests may do, over its own states: the relations that each handler states of
-- itself.
use Rattle.std.specs.Prelude.{◌≡◌, ℕ, ◌⊎◌, List, [], ◌∷◌, ◌++◌}
use Rattle.httparse.specs.Grammar.{RequestHead}
use Rattle.pid_http_stream.specs.Heads.{HasHead}
use Rattle.pid_http_stream.specs.Replies.{Answer, reply_bytes}
use Rattle.pid_http_stream.specs.Requests.{Request}
use Rattle.pid_http_stream.specs.Streams.{closes}
use Rattle.pid_http_stream.specs.declared.reply_head.ReplyHead.{ReplyHead}

-- what may be known of a handler before a request and after it
pub record Conduct (H : Type 0) : Type 1 where
  -- how it may answer a request
  pub answers : H → Request → Answer → H → Type 0
  -- what it comes to if a whole request came, and memory for its reply is refused
  pub leaves : H → Request → H → Type 0
  -- what it comes to if it gave a request with this head up, whose body did not come whole
  pub gives_up : H → RequestHead → H → Type 0
  -- what it may say of a body that it is to write itself: to a request, after this head, so many
  -- bytes
  pub promises : H → Request → ReplyHead → ℕ → H → Type 0

-- no request was answered: it was not asked, or gave up the one with this head
abbrev pub StandsStill : {H : Type 0} → Conduct H → H → RequestHead → H → Type 0
StandsStill conduct a head b = (a ≡ b) ⊎ conduct.gives_up a head b

-- No request was answered of which these bytes came: the handler was not asked, or they begin with
-- the head of the request that it gave up.
abbrev pub StandsOver : {H : Type 0} → Conduct H → H → List ℕ → H → Type 0
StandsOver conduct a came b = (a ≡ b)
    ⊎ ((head : RequestHead) × (behind : List ℕ) × HasHead came head behind
    × conduct.gives_up a head b)

-- the replies to requests one after another, from one state to another
abbrev pub AreReplies : {H : Type 0} → Conduct H → H → List Request → List ℕ → H → Type 0
AreReplies conduct a [] bytes b = (bytes ≡ []) × (a ≡ b)
AreReplies {H} conduct a (request ∷ requests) bytes b =
    (mid : H) × (answer : Answer) × (later : List ℕ) × conduct.answers a request answer mid
    × (bytes ≡ reply_bytes answer (closes request) ++ later)
    × AreReplies conduct mid requests later b
