-- How a registry answers the requests of a stream: what is promised of the whole stream is
-- `IsServed` over these steps.
use Rattle.std.specs.Prelude.{◌≡◌, ◌≤◌, ℕ, ◌+◌, true, false, List, [], ◌∷◌, length}
use Rattle.std.specs.Prelude.{Option, None, Some, Err}
use Rattle.std.specs.Option.{option_map_or}
use Rattle.pid_service_laws.specs.declared.registry_calls.RegistryCalls.{Ghosts}
use Rattle.pid_service_laws.specs.Calls.{AreNothing, Call, obeyed}
use Rattle.pid_moderation.specs.History.{Asked, History}
use Rattle.pid_moderation.specs.Judgement.{after, answer, judge}
use Rattle.pid_moderation.specs.Views.{views_of}
use Rattle.pid_moderation.specs.Writes.{tree_of}
use Rattle.pid_moderation.specs.declared.refusal.Refusal.{Refusal}
use Rattle.pid_moderation.specs.declared.refusal.Refusal.TheVariants.{Failed}
use Rattle.pid_service_laws.specs.Outcomes.{IsMemoryOrStore}
use Rattle.pid_file.specs.Printing.{print}
use Rattle.pid_http_stream.specs.Conducts.{Conduct}
use Rattle.pid_http_stream.specs.Replies.{Answer}
use Rattle.pid_http_stream.specs.Requests.{fields_of}
use Rattle.pid_http_stream.specs.declared.handler.Wanted.TheVariants.{Streamed}
use Rattle.pid_http_stream.specs.declared.reply_head.Content.TheVariants.{Text}
use Rattle.pid_http_stream.specs.declared.reply_head.ReplyHead.{ReplyHead}
use Rattle.pid_http.specs.Api.Questions.{Asking, question}
use Rattle.pid_http.specs.Api.Senders.{Sending, sender}
use Rattle.pid_http.specs.Answering.{answer_over, IsMeaningRefused, LacksForm, RequestMeaning}
use Rattle.pid_http.specs.Answering.{Answered, Obeys}
use Rattle.pid_http.specs.Answering.{Denied, Asks, command_sent, meaning_of, known_answer}
use Rattle.pid_http.specs.declared.api.format.Format.{Format}
use Rattle.pid_http.specs.declared.api.question.Question.{Question}
use Rattle.pid_http.specs.declared.api.question.Question.TheVariants.{Whole, Children}
use Rattle.pid_http.specs.declared.api.route_table.Whole.TheVariants.{Export}
use Rattle.pid_http.specs.Known.{Known, Live, Between, SessionState, ByCalls}

-- the calls send nothing, and are at most so many
abbrev pub AreQuestions : ℕ → List Call → Type 0
AreQuestions most calls = AreNothing calls × (length calls ≤ most)

-- How many are asked before a question. Before the items below a path the item at the path is asked
-- for, and before the text of all items its length.
abbrev pub asked_before : Question → ℕ
asked_before (Whole Export) = 1
asked_before (Children (Some path)) = 1
asked_before question = 0

-- how many questions a request takes at most
abbrev pub most_questions : RequestMeaning → ℕ
most_questions (Answered given) = 0
most_questions (Denied refusal format) = 0
most_questions (Obeys command format) = 1
most_questions (Asks question format) = asked_before question + 1

-- The calls for a request that was answered over the history: by them a command was sent once, and
-- has the outcome of the judgement; what is no command sends nothing, by at most so many calls.
abbrev pub AreCallsOver : History → Option Asked → ℕ → List Call → Type 0
AreCallsOver h None most calls = AreQuestions most calls
AreCallsOver h (Some command) most calls = calls
    ≡ obeyed command (answer (judge (views_of h) command)) true ∷ []

-- The calls of a request that a fault of memory or of the store left undone: of a registry that
-- stays live. A command was sent by one call, which has no outcome, and so counts as not sent.
abbrev pub AreUndone : Option Asked → Refusal → ℕ → List Call → Type 0
AreUndone None fault most calls = AreQuestions most calls
AreUndone (Some command) fault most calls = calls ≡ obeyed command (Err fault) true ∷ []

-- How a live registry that shows this history meets what a request comes to: its answer, the calls
-- that it got, and what is known of it then.
pub data IsMetOver (h : History) (meaning : RequestMeaning) (given : Answer) (calls : List Call)
    (k : Known)
    : Type 0 where
  -- it is answered over the history, and the registry shows the one after it, to which only a
  -- command that is accepted adds
  AnsweredOver : given ≡ answer_over h meaning
      → AreCallsOver h (command_sent meaning) (most_questions meaning) calls
      → k ≡ Live (option_map_or (after h) (command_sent meaning) h)
      → IsMetOver h meaning given calls k
  -- out of memory before the registry was asked
  NotAsked : LacksForm meaning given → calls ≡ [] → k ≡ Live h → IsMetOver h meaning given calls k
  -- memory or the store failed, and nothing was done
  NotDone : (fault : Refusal) → IsMemoryOrStore fault → IsMeaningRefused meaning fault given
      → AreUndone (command_sent meaning) fault (most_questions meaning) calls → k ≡ Live h
      → IsMetOver h meaning given calls k
  -- They failed while a command was written, at which the calls then stopped: the registry has
  -- failed between the history and the one after the command.
  InDoubt : (fault : Refusal) (command : Asked) → IsMemoryOrStore fault
      → IsMeaningRefused meaning fault given
      → command_sent meaning ≡ Some command → calls ≡ obeyed command (Err fault) false ∷ []
      → k ≡ Between h (after h command) → IsMetOver h meaning given calls k

-- the answer of a registry that has failed, and the calls that it got, which send nothing
pub data IsFailedAnswer (meaning : RequestMeaning) (given : Answer) (calls : List Call)
    : Type 0 where
  -- what it is asked, by one call at most, it refuses for that
  Refused : IsMeaningRefused meaning Failed given → AreQuestions 1 calls
      → IsFailedAnswer meaning given calls
  -- what it is not asked is answered as ever
  AsEver : known_answer meaning ≡ Some given → calls ≡ [] → IsFailedAnswer meaning given calls
  -- out of memory before it was asked
  Short : LacksForm meaning given → calls ≡ [] → IsFailedAnswer meaning given calls

-- How it is answered, by what was known of the registry before it and what is known then, and by
-- which calls.
abbrev pub IsMeaningMet : Known → RequestMeaning → Answer → List Call → Known → Type 0
IsMeaningMet (Live h) meaning given calls k = IsMetOver h meaning given calls k
IsMeaningMet known meaning given calls k = IsFailedAnswer meaning given calls × (k ≡ known)

-- what is said of a text before it is written: its head, and how many bytes it has
pub record IsTextHead (h : History) (head : ReplyHead) (content_length : ℕ) : Type 0 where
  pub status : head.status ≡ 200
  pub content : head.content ≡ Text
  pub length_is : content_length ≡ length (print (tree_of h))

-- only an export is promised, and only by a registry that is live, by at most one call
abbrev pub IsPromised : Known → RequestMeaning → ReplyHead → ℕ → List Call → Known → Type 0
IsPromised (Live h) meaning head content_length calls k =
    ((format : Format) × (meaning ≡ Asks (Whole Export) format))
    × IsTextHead h head content_length × AreQuestions 1 calls × (k ≡ Live h)
IsPromised known meaning head content_length calls k = ⊥

-- How many questions a request takes at most whose body broke off. Only an import is obeyed as its
-- body comes, and one without a sender is refused.
abbrev pub most_given_up : Asking → Option Sending → ℕ
most_given_up (Streamed format) (Some s) = 1
most_given_up asked s = 0

-- If memory ran out for a reply, what it is a reply to may have been done. A request that was
-- given up sent nothing.
abbrev pub serving : {R : Type 0} (registry : Ghosts R) → Conduct (SessionState registry)
serving registry = record {
  answers = λ t request given u. ByCalls registry t u
      (λ calls. IsMeaningMet t.known (meaning_of request) given calls u.known);
  leaves = λ t request u. ByCalls registry t u
      (λ calls. (given : Answer) × IsMeaningMet t.known (meaning_of request) given calls u.known);
  gives_up = λ t head u. ByCalls registry t u (λ calls. AreQuestions
      (most_given_up (question head.method head.target) (sender (fields_of head))) calls
      × (t.known ≡ u.known));
  promises = λ t request head content_length u. ByCalls registry t u
      (λ calls. IsPromised t.known (meaning_of request) head content_length calls u.known);
}
