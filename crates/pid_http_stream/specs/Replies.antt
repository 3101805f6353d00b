-- The bytes of a reply (RFC 9112, section 4): its status, the lines of its head in a fixed order,
-- and its body.
use Rattle.std.specs.Prelude.{ℕ, Bool, true, false, List, [], ◌++◌, length, codes, decimal}
use Rattle.std.specs.Prelude.{unwrap_or}
use Rattle.http.specs.StatusCode.{code_digits, reason_phrase}
use Rattle.pid_http_stream.specs.StreamFaults.{fault_row, fault_text}
use Rattle.pid_http_stream.specs.declared.refusal.StreamFault.{StreamFault}
use Rattle.pid_http_stream.specs.declared.reply_head.ReplyHead.{ReplyHead}
use Rattle.pid_http_stream.specs.declared.reply_head.Content.{Content}
use Rattle.pid_http_stream.specs.declared.reply_head.Content.TheVariants.{Json, Text, Bytes}
use Rattle.pid_http_stream.specs.declared.reply_head.Content.TheVariants.{AllowGet, AllowPost}
use Rattle.pid_http_stream.specs.declared.reply_head.Content.TheVariants.{AllowBoth}

-- What is answered to a request. The head states the length before the body is written: that is
-- `length body`, unless a handler writes the body itself and does not keep to the length it stated.
pub record Answer : Type 0 where
  pub status : ℕ
  pub content : Content
  pub content_length : ℕ
  pub body : List ℕ

-- an answer whose length is that of its body
abbrev pub answer_with : ℕ → Content → List ℕ → Answer
answer_with status content body =
    record { status = status; content = content; content_length = length body; body = body }

-- an answer with this head, whose body the handler writes itself, after the length it stated
abbrev pub answer_after : ReplyHead → ℕ → List ℕ → Answer
answer_after head content_length body =
    record { status = head.status; content = head.content; content_length = content_length; body = body }

-- the first line of a reply: the status, and its phrase, as the crate `http` has it
abbrev pub status_line : ℕ → List ℕ
status_line status = codes "HTTP/1.1 " ++ code_digits status ++ codes " "
    ++ unwrap_or (reason_phrase status) [] ++ codes "\r\n"

-- what the body is; a reply that names the methods allowed has no body, and no type
abbrev pub type_line : Content → List ℕ
type_line Json = codes "Content-Type: application/json\r\n"
type_line Text = codes "Content-Type: text/plain; charset=utf-8\r\n"
type_line Bytes = codes "Content-Type: text/plain\r\n"
type_line methods = []

-- the methods allowed (RFC 9110, section 10.2.1)
abbrev pub allow_line : Content → List ℕ
allow_line AllowGet = codes "Allow: GET\r\n"
allow_line AllowPost = codes "Allow: POST\r\n"
allow_line AllowBoth = codes "Allow: GET, POST\r\n"
allow_line content = []

-- only a reply that ends its stream says so
abbrev pub close_line : Bool → List ℕ
close_line true = codes "Connection: close\r\n"
close_line false = []

-- the head of a reply: the lines in their order, and an empty line
abbrev pub reply_head : ℕ → Content → ℕ → Bool → List ℕ
reply_head status content content_length closes =
    status_line status ++ type_line content ++ codes "Content-Length: " ++ decimal content_length
    ++ codes "\r\n"
    ++ allow_line content ++ close_line closes ++ codes "\r\n"

-- the bytes of the reply
unfoldable pub reply_bytes : Answer → Bool → List ℕ
reply_bytes answer closes = reply_head answer.status answer.content answer.content_length closes
    ++ answer.body

-- the answer to a stream with a fault, as JSON
abbrev pub fault_answer : StreamFault → Answer
fault_answer fault = answer_with (fault_row fault).0 Json (fault_text fault)
