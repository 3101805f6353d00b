-- Answers in a format, and replies that are one.
use Rattle.std.specs.Prelude.{◌≡◌, ℕ, List, ◌++◌, map, codes, Result, IfOk}
use Rattle.std.specs.List.{flat_map}
use Rattle.serde_json.specs.Data.{Data, array}
use Rattle.serde_json.specs.View.{items_of}
use Rattle.serde_json.specs.Written.{compact_text}
use Rattle.pid_http_stream.specs.Replies.{Answer, answer_with}
use Rattle.pid_http_stream.specs.declared.handler.HttpReply.{HttpReply}
use Rattle.pid_http_stream.specs.declared.handler.ReplyBody.{ReplyBody}
use Rattle.pid_http_stream.specs.declared.handler.ReplyBody.TheVariants.{Bytes, Written}
use Rattle.pid_http_stream.specs.declared.reply_head.Content.TheVariants as contents
use Rattle.pid_http_stream.specs.declared.reply_head.ReplyHead.{ReplyHead}
use Rattle.pid_http.specs.declared.api.format.Format.{Format}
use Rattle.pid_http.specs.declared.api.format.Format.TheVariants.{Json, Text}

-- an answer in either format: a value as compact JSON (RFC 8259), or a text. That both say the same
-- is a choice of this project
abbrev pub answer_in : Format → ℕ → Data → List ℕ → Answer
answer_in Json status value text = answer_with status contents.Json (compact_text value)
answer_in Text status value text = answer_with status contents.Text text

-- the answer with what is shown, which has a value and lines of text
abbrev pub shown_answer : {X : Type 0} → (X → Data) → (X → List ℕ) → Format → X → Answer
shown_answer json lines format x = answer_in format 200 (json x) (lines x)

-- a line of a word and what it says
abbrev pub word_line : List ℕ → List ℕ → List ℕ
word_line word value = word ++ codes " " ++ value ++ codes "\n"

-- rows as an array, in their order
abbrev pub rows_data : {X : Type 0} → (X → Data) → List X → Data
rows_data json rows = array (items_of (map json rows))

-- the answer with a list of rows; a line of text for each
abbrev pub list_answer : {X : Type 0} → (X → Data) → (X → List ℕ) → Format → List X → Answer
list_answer json line format rows = shown_answer (rows_data json) (flat_map line) format rows

-- the body is there, and after this head it is the answer
abbrev pub IsBodyOf : ReplyHead → ReplyBody → Answer → Type 0
IsBodyOf head (Bytes body) answer = answer_with head.status head.content body.items ≡ answer
IsBodyOf head (Written content_length) answer = ⊥

-- the reply is the answer
abbrev pub IsReplyOf : HttpReply → Answer → Type 0
IsReplyOf reply answer = IsBodyOf reply.head reply.body answer

-- the reply, if there was memory for it, is the answer
abbrev pub MakesReply : {E : Type 0} → Result HttpReply E → Answer → Type 0
MakesReply result answer = IfOk result (λ reply. IsReplyOf reply answer)
