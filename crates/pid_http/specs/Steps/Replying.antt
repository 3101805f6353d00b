-- What the functions that answer one request say of their reply.
use Rattle.std.specs.Prelude.{◌≡◌, ◌≤◌, ◌⊎◌, ℕ, true, false, List, [], ◌∷◌, length}
use Rattle.std.specs.Prelude.{Option, Some, Result}
use Rattle.std.specs.Prelude.{Ok, Err, IsErrAnd, MatchResult}
use Rattle.std.specs.Io.KnownBytes.{IsAtEnd}
use Rattle.pid_file.specs.declared.io.Input as inputs
use Rattle.pid_service_laws.specs.declared.registry_calls.RegistryCalls.{Ghosts}
use Rattle.pid_service_laws.specs.Calls.{Call, obeyed}
use Rattle.pid_moderation.specs.History.{Asked}
use Rattle.pid_moderation.specs.Judgement.{answer, judge, after}
use Rattle.pid_moderation.specs.Views.{views_of}
use Rattle.pid_moderation.specs.declared.command.Reply.{Reply as Outcome}
use Rattle.pid_moderation.specs.declared.refusal.Refusal.{Refusal}
use Rattle.pid_moderation.specs.declared.refusal.Refusal.TheVariants as refusals
use Rattle.pid_service_laws.specs.Outcomes.{IsMemoryOrStore}
use Rattle.pid_http_stream.specs.declared.limits.TheConstants.{LONGEST_BODY}
use Rattle.pid_http_stream.specs.Replies.{Answer, answer_with}
use Rattle.pid_http_stream.specs.declared.handler.HttpReply.{HttpReply}
use Rattle.pid_http_stream.specs.declared.handler.ReplyBody.{ReplyBody}
use Rattle.pid_http_stream.specs.declared.handler.ReplyBody.TheVariants.{Bytes, Written}
use Rattle.pid_http_stream.specs.declared.reply_head.ReplyHead.{ReplyHead}
use Rattle.pid_http.specs.declared.api.format.Format.{Format}
use Rattle.pid_http_stream.specs.Steps.Bodies.{ReadsOut}
use Rattle.pid_http.specs.Api.Outcomes.{outcome_answer}
use Rattle.pid_http.specs.Api.Replying.{MakesReply}
use Rattle.pid_http.specs.Answering.{RequestMeaning}
use Rattle.pid_http.specs.Known.{Known, Live, Between, Down}
use Rattle.pid_http.specs.Steps.Going.{Goes}
use Rattle.pid_http.specs.Serving.{AreQuestions, IsMeaningMet, IsPromised, most_questions}

-- the answer with what was found, or with the refusal
abbrev pub answer_or : {X : Type 0} → Format → (X → Answer) → Result X Refusal → Answer
answer_or format found (Ok x) = found x
answer_or format found (Err refusal) = outcome_answer format (Err refusal)

-- what a command is answered, by which call, and what is known of the registry then
abbrev pub IsCommandMet : Asked → Known → Result Outcome Refusal → List Call → Known → Type 0
IsCommandMet c (Live h) result calls k =
    ((result ≡ answer (judge (views_of h) c)) × (calls ≡ obeyed c result true ∷ [])
    × (k ≡ Live (after h c)))
    ⊎ (IsErrAnd result IsMemoryOrStore × (((calls ≡ obeyed c result true ∷ []) × (k ≡ Live h))
    ⊎ ((calls ≡ obeyed c result false ∷ []) × (k ≡ Between h (after h c)))))
IsCommandMet c (Between before behind) result calls k = (result ≡ Err refusals.Failed)
    × AreQuestions 1 calls × (k ≡ Between before behind)
IsCommandMet c Down result calls k = (result ≡ Err refusals.Failed) × AreQuestions 1 calls
    × (k ≡ Down)

-- the body is that of an answer, or is promised
abbrev pub IsBodyMet : Known → RequestMeaning → ReplyHead → ReplyBody → List Call → Known → Type 0
IsBodyMet k meaning head (Bytes body) calls now = IsMeaningMet k meaning
    (answer_with head.status head.content body.items) calls now
IsBodyMet k meaning head (Written content_length) calls now = IsPromised k meaning head content_length calls now

-- the reply is an answer; or memory ran out for it, and what it is a reply to was done
abbrev pub IsMetBy : {E : Type 0} → Known → RequestMeaning → Result HttpReply E → List Call → Known
    → Type 0
IsMetBy k meaning result calls now = MatchResult result
    (λ reply. IsBodyMet k meaning reply.head reply.body calls now)
    (λ _. (given : Answer) × IsMeaningMet k meaning given calls now)

-- The same if the body is read as it comes: it may have been given up, and memory ran out only
-- with the body at its end.
abbrev pub IsMetAfter : {E : Type 0} → Known → RequestMeaning → Result HttpReply E → Option (List ℕ)
    → List Call → Known → Type 0
IsMetAfter k meaning result left calls now =
    MatchResult result
    (λ reply. IsBodyMet k meaning reply.head reply.body calls now)
    (λ _. (AreQuestions (most_questions meaning) calls × (k ≡ now))
    ⊎ (IsAtEnd left × ((given : Answer) × IsMeaningMet k meaning given calls now)))

-- what comes of it
abbrev pub Replies : {R E : Type 0} → (registry : Ghosts R) → R → R
    → RequestMeaning → Result HttpReply E → Type 0
Replies registry old new meaning result = Goes registry old new
    (λ k calls now. IsMetBy k meaning result calls now)

-- the body is read to its end, and then answered so
pub record AnswersAfter {I E : Type 0} (body : inputs.Ghosts I) (old new : I) (given : Answer)
    (result : Result HttpReply E)
    : Type 0 where
  pub read : ReadsOut body old new result
  pub ended : body.to_come old ≡ Some [] → body.to_come new ≡ Some []
  pub replied : MakesReply result given

-- what comes of it if the body is a file that is read as it comes, known and not too long
pub record RepliesToFile {R I E : Type 0} (registry : Ghosts R) (body : inputs.Ghosts I)
    (old new : R) (input input_after : I) (meaning : List ℕ → RequestMeaning)
    (result : Result HttpReply E)
    : Type 0 where
  pub read : ReadsOut body input input_after result
  pub replied : Goes registry old new
      (λ k calls now. (file : List ℕ) → body.to_come input ≡ Some file
      → length file ≤ LONGEST_BODY
      → IsMetAfter k (meaning file) result (body.to_come input_after) calls now)
