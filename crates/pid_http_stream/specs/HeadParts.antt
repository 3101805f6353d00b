-- The head of a request over the bytes that hold it.
use Rattle.httparse.specs.Grammar.{RequestHead}
use Rattle.httparse.specs.Spans.{IsRequestAt}
use Rattle.pid_http_stream.specs.declared.head.Head.{Head}

-- the parts that the head shows in its bytes are those of this one
abbrev pub IsHeadOf : Head → RequestHead → Type 0
IsHeadOf head h = IsRequestAt head.bytes.now head.fields.now head.spans h
