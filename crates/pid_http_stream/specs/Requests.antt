-- A request with which a stream begins: its head, and a body of the length that the head says (RFC
-- 9112, section 6.3).
use Rattle.std.specs.Prelude.{◌≡◌, ℕ, List, ◌++◌, length, map}
use Rattle.httparse.specs.Grammar.{RequestHead}
use Rattle.httparse.specs.Spans.{name_and_value}
use Rattle.pid_http_stream.specs.BodyLengths.{body_length}
use Rattle.pid_http_stream.specs.FieldValues.{NamedValue}
use Rattle.pid_http_stream.specs.Heads.{HasHead}
use Rattle.pid_http_stream.specs.declared.body_length.BodyLength.TheVariants.{Bytes}

-- the names and the values of a head's fields
abbrev pub fields_of : RequestHead → List NamedValue
fields_of head = map name_and_value head.fields

-- a head and a body
pub record Request : Type 0 where
  pub head : RequestHead
  pub body : List ℕ

-- the stream is this request, and then the rest
pub record IsRequest (stream : List ℕ) (request : Request) (rest : List ℕ) : Type 0 where
  pub head : HasHead stream request.head (request.body ++ rest)
  pub sized : body_length (fields_of request.head) ≡ Bytes (length request.body)
