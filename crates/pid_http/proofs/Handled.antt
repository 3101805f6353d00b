-- The service as a handler: what was answered is an answer to what the request comes to.
use Rattle.std.proofs.Common.{◌≡◌, ℕ, List, [], Option, Some, None, Result, Ok, Err, refl, subst, ◌∙◌, inl, inr}
use Rattle.std.specs.Prelude.{◌⊎◌}
use Rattle.std.specs.Io.KnownBytes.{IsAtEnd}
use Rattle.pid_service_laws.specs.declared.registry_calls.RegistryCalls.{Ghosts}
use Rattle.pid_service_laws.specs.Calls.{Call}
use Rattle.pid_http_stream.specs.Conducts.{StandsStill}
use Rattle.pid_http_stream.specs.declared.handler.Wanted.TheVariants.{Streamed}
use Rattle.pid_http_stream.specs.Handling.{IsHandled, IsBodyFor, MayReply}
use Rattle.pid_http_stream.specs.Replies.{Answer}
use Rattle.pid_http_stream.specs.Requests.{Request, fields_of}
use Rattle.pid_http_stream.specs.declared.handler.HttpReply.{HttpReply}
use Rattle.pid_http_stream.specs.declared.handler.ReplyBody.{ReplyBody}
use Rattle.pid_http_stream.specs.declared.handler.ReplyBody.TheVariants.{Bytes, Written}
use Rattle.pid_http_stream.specs.declared.reply_head.ReplyHead.{ReplyHead}
use Rattle.pid_http.specs.Api.Questions.{Asking, question}
use Rattle.pid_http.specs.Api.Senders.{Sending, sender}
use Rattle.pid_http.specs.declared.api.format.Format.{Format}
use Rattle.pid_http.specs.Answering.{RequestMeaning, meaning_asked, meaning_of, import_meaning}
use Rattle.pid_http.specs.Known.{SessionState, ByCalls}
use Rattle.pid_http.specs.Steps.Replying.{IsBodyMet, IsMetAfter}
use Rattle.pid_http.specs.Serving.{AreQuestions, IsMeaningMet, most_given_up, most_questions, serving}

-- what a head asks is what the request comes to
pub meaning_is : (request : Request) (wanted : Asking) (body : List ℕ) (s : Option Sending) → wanted ≡ question request.head.method request.head.target
    → s ≡ sender (fields_of request.head) → body ≡ request.body → meaning_asked wanted s body ≡ meaning_of request
unfolding meaning_of
meaning_is request wanted body s asked sends b = λ i. meaning_asked (asked i) (sends i) (b i)

-- an import that was given up takes as many questions as one that was not
import_most : (format : Format) (s : Option Sending) (file : List ℕ) → most_questions (import_meaning format s file) ≡ most_given_up (Streamed format) s
import_most format None file = refl
import_most format (Some s) file = refl

pub given_up_most : (request : Request) (format : Format) (file : List ℕ) (s : Option Sending) → Streamed format ≡ question request.head.method request.head.target → s ≡ sender (fields_of request.head)
    → most_questions (import_meaning format s file) ≡ most_given_up (question request.head.method request.head.target) (sender (fields_of request.head))
given_up_most request format file s asked sends = import_most format s file ∙ (λ i. most_given_up (asked i) (sends i))

module _ {R : Type 0} (registry : Ghosts R) where
  body_for : (t u : SessionState registry) (request : Request) (head : ReplyHead) (body : ReplyBody) → ByCalls registry t u (λ calls. IsBodyMet t.known (meaning_of request) head body calls u.known) → IsBodyFor (serving registry) t request head body u
  body_for t u request head (Bytes body) m = m
  body_for t u request head (Written content_length) m = m

  -- what holds of the calls, said otherwise
  pub by_calls : (t u : SessionState registry) (P Q : List Call → Type 0) → ((calls : List Call) → P calls → Q calls) → ByCalls registry t u P → ByCalls registry t u Q
  by_calls t u P Q f b = record { same_session = b.same_session; more = b.more; joined = b.joined; holds = f b.more b.holds }

  -- a reply was made
  pub asked_ok : (t u : SessionState registry) (request : Request) (meaning : RequestMeaning) (reply : HttpReply) → meaning ≡ meaning_of request → ByCalls registry t u (λ calls. IsBodyMet t.known meaning reply.head reply.body calls u.known) → MayReply (serving registry) t request reply u
  asked_ok t u request meaning reply same m =
      body_for t u request reply.head reply.body (by_calls t u _ _ (λ calls h. subst (λ c. IsBodyMet t.known c reply.head reply.body calls u.known) same h) m)

  -- and where memory lacked for it
  pub asked_err : (t u : SessionState registry) (request : Request) (meaning : RequestMeaning) → meaning ≡ meaning_of request → ByCalls registry t u (λ calls. (given : Answer) × IsMeaningMet t.known meaning given calls u.known)
      → StandsStill (serving registry) t request.head u ⊎ (IsAtEnd (Some []) × (serving registry).leaves t request u)
  asked_err t u request meaning same m = inr (refl, by_calls t u _ _ (λ calls h. (h.0, subst (λ c. IsMeaningMet t.known c h.0 calls u.known) same h.1)) m)

  pub asked_after : {E : Type 0} (t u : SessionState registry) (request : Request) (meaning : RequestMeaning) (result : Result HttpReply E) (left : Option (List ℕ)) → meaning ≡ meaning_of request
      → most_questions meaning ≡ most_given_up (question request.head.method request.head.target) (sender (fields_of request.head)) → ByCalls registry t u (λ calls. IsMetAfter t.known meaning result left calls u.known) → IsHandled (serving registry) t request result left u
  asked_after {E} t u request meaning (Ok reply) left same most m = asked_ok t u request meaning reply same m
  asked_after {E} t u request meaning (Err e) left same most m = by_case m.holds
    where
      by_case : (AreQuestions (most_questions meaning) m.more × (t.known ≡ u.known)) ⊎ (IsAtEnd left × ((given : Answer) × IsMeaningMet t.known meaning given m.more u.known)) → IsHandled {E = E} (serving registry) t request (Err e) left u
      by_case (inl still) = inl (inr (record { same_session = m.same_session; more = m.more; joined = m.joined; holds = (subst (λ n. AreQuestions n m.more) most still.0, still.1) }))
      by_case (inr (end, (given, met))) = inr (end, record { same_session = m.same_session; more = m.more; joined = m.joined; holds = (given, subst (λ c. IsMeaningMet t.known c given m.more u.known) same met) })
