-- What is refused in a stream that begins with neither a request nor a leftover: choices of this
-- project.
use Rattle.std.specs.Prelude.{◌≡◌, ℕ, ◌<◌, ◌⊎◌, List, length}
use Rattle.httparse.specs.Grammar.{RequestHead}
use Rattle.pid_http_stream.specs.BodyLengths.{body_length}
use Rattle.pid_http_stream.specs.Heads.{HasHead, HasNoHead}
use Rattle.pid_http_stream.specs.Leftovers.{IsLeftover}
use Rattle.pid_http_stream.specs.Requests.{fields_of}
use Rattle.pid_http_stream.specs.declared.body_length.BodyLength.{BodyLength}
use Rattle.pid_http_stream.specs.declared.body_length.BodyLength.TheVariants.{Encoded, Bad}
use Rattle.pid_http_stream.specs.declared.body_length.BodyLength.TheVariants.{TooLong, Bytes}
use Rattle.pid_http_stream.specs.declared.refusal.StreamFault.{StreamFault}
use Rattle.pid_http_stream.specs.declared.refusal.StreamFault.TheVariants.{BadHead, Encoding}
use Rattle.pid_http_stream.specs.declared.refusal.StreamFault.TheVariants.{BodyTooLong, BodyShort}

-- the stream begins with a head, which says this of its body
pub record SaysOfBody (stream : List ℕ) (said : BodyLength) : Type 0 where
  pub head : RequestHead
  pub rest : List ℕ
  pub has : HasHead stream head rest
  pub says : body_length (fields_of head) ≡ said

-- the stream ends within the body
pub record IsShort (stream : List ℕ) : Type 0 where
  pub head : RequestHead
  pub rest : List ℕ
  pub has : HasHead stream head rest
  pub wanted : ℕ
  pub says : body_length (fields_of head) ≡ Bytes wanted
  pub short : length rest < wanted

-- the stream begins with this fault: if with no head, there is something
abbrev pub HasFault : List ℕ → StreamFault → Type 0
HasFault stream BadHead = (HasNoHead stream × ¬ (IsLeftover stream)) ⊎ SaysOfBody stream Bad
HasFault stream Encoding = SaysOfBody stream Encoded
HasFault stream BodyTooLong = SaysOfBody stream TooLong
HasFault stream BodyShort = IsShort stream
