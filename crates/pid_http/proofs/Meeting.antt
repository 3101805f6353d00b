-- How a call of the registry meets what a request comes to.
use Rattle.std.proofs.Common.{◌≡◌, ◌≤◌, ℕ, Bool, true, false, List, [], ◌∷◌, ◌++◌, Option, Some, None, Result, Ok, Err, IfOk, refl, sym, ap, subst, ◌∙◌, inl, inr, arith}
use Rattle.std.specs.Prelude.{◌⊎◌, MatchResult}
use Rattle.std.specs.Option.{option_map_or}
use Rattle.pid_service_laws.specs.declared.registry_calls.RegistryCalls.{Ghosts}
use Rattle.pid_service_laws.specs.Calls.{Call, nothing_sent, obeyed as sends}
use Rattle.pid_service_laws.specs.Registries.{CommandLeaves, Does}
use Rattle.pid_moderation.specs.History.{Asked, History}
use Rattle.pid_moderation.specs.Judgement.{after}
use Rattle.pid_moderation.specs.declared.command.Command.{Command}
use Rattle.pid_moderation.specs.declared.command.Reply.{Reply as Outcome}
use Rattle.pid_moderation.specs.declared.refusal.Refusal.{Refusal}
use Rattle.pid_moderation.specs.declared.refusal.Refusal.TheVariants as refusals
use Rattle.pid_service_laws.specs.Questions.{IsAnswered, IsAnsweredIfThere, IsMissing, ShowsWhileLive}
use Rattle.pid_service_laws.specs.Outcomes.{IsMemoryOrStore}
use Rattle.pid_http_stream.specs.Leading.{Leads}
use Rattle.pid_http_stream.specs.Replies.{Answer}
use Rattle.pid_http_stream.specs.declared.handler.HttpReply.{HttpReply}
use Rattle.pid_http_stream.specs.declared.handler.ReplyBody.{ReplyBody}
use Rattle.pid_http_stream.specs.declared.handler.ReplyBody.TheVariants.{Bytes, Written}
use Rattle.pid_http_stream.specs.declared.reply_head.ReplyHead.{ReplyHead}
use Rattle.pid_http.specs.Api.Senders.{Sending}
use Rattle.pid_http.specs.declared.api.format.Format.{Format}
use Rattle.pid_http.specs.Api.Outcomes.{outcome_answer}
use Rattle.pid_http.specs.Api.Replying.{IsReplyOf, IsBodyOf}
use Rattle.pid_http.specs.Answering.{answer_over, IsMeaningRefused, LacksForm, RequestMeaning, Answered, Denied, Obeys, Asks, command_sent, command_meaning, import_meaning, known_answer, answer_to, format_of}
use Rattle.pid_http.specs.declared.api.question.Question.{Question}
use Rattle.pid_http.specs.Known.{Known, Live, Between, Down, IsKnownOf, LivesOn, IsSessionState, ByCalls}
use Rattle.pid_http.specs.Steps.Going.{Goes, calls_join}
use Rattle.pid_http.specs.Steps.Replying.{IsCommandMet, IsBodyMet, IsMetBy, answer_or}
use Rattle.pid_http.specs.Serving.{IsMeaningMet, IsMetOver, AnsweredOver, NotAsked, NotDone, InDoubt, AreCallsOver, AreQuestions, AreUndone, IsFailedAnswer, Refused, AsEver, Short, most_questions}

-- what only asks: its answer by what is found
pub record IsQuestion {X : Type 0} (format : Format) (found : X → Answer) (Says : History → X → Type 0) (meaning : RequestMeaning) : Type 0 where
  pub over : (h : History) (x : X) → Says h x → found x ≡ answer_over h meaning
  pub refused : (e : Refusal) → IsMeaningRefused meaning e (outcome_answer format (Err e))
  pub no_command : command_sent meaning ≡ None

-- what asks for something that may not be there
pub record IsQuestionIfThere {X Y : Type 0} (format : Format) (found : X → Answer) (there : History → Option Y) (means : X → Y) (meaning : RequestMeaning) : Type 0 where
  pub over : (h : History) (x : X) → there h ≡ Some (means x) → found x ≡ answer_over h meaning
  pub missing : (h : History) → there h ≡ None → outcome_answer format (Err refusals.NoSubmission) ≡ answer_over h meaning
  pub refused : (e : Refusal) → IsMeaningRefused meaning e (outcome_answer format (Err e))
  pub no_command : command_sent meaning ≡ None

-- what is found is seen as a view, of which the answer is made
pub shows : {X Y : Type 0} (format : Format) (found : Y → Answer) (sees : X → Y) (view : History → Y) (question : Question) → ((h : History) → found (view h) ≡ answer_to h question format) → format_of (Asks question format) ≡ format
    → IsQuestion format (λ (x : X). found (sees x)) (λ h (x : X). sees x ≡ view h) (Asks question format)
unfolding answer_over
shows format found sees view question same formatted = record {
  over = λ h x e. ap found e ∙ same h;
  refused = λ e. (refl, ap (λ (f : Format). outcome_answer f (Err e)) (sym formatted));
  no_command = refl;
}

abbrev or_missing : {Y : Type 0} → Format → (Y → Answer) → Option Y → Answer
or_missing format found there = option_map_or found there (outcome_answer format (Err refusals.NoSubmission))

pub shows_there : {X Y : Type 0} (format : Format) (found : Y → Answer) (means : X → Y) (there : History → Option Y) (question : Question) → ((h : History) → or_missing format found (there h) ≡ answer_to h question format) → format_of (Asks question format) ≡ format
    → IsQuestionIfThere format (λ (x : X). found (means x)) there means (Asks question format)
unfolding answer_over
shows_there format found means there question same formatted = record {
  over = λ h x is. sym (ap (or_missing format found) is) ∙ same h;
  missing = λ h none. sym (ap (or_missing format found) none) ∙ same h;
  refused = λ e. (refl, ap (λ (f : Format). outcome_answer f (Err e)) (sym formatted));
  no_command = refl;
}

-- the history after what was asked
abbrev pub history_after : History → Option Asked → History
history_after h command = option_map_or (after h) command h

-- without a command the history stays
same_history : (h : History) (meaning : RequestMeaning) → command_sent meaning ≡ None → Live h ≡ Live (history_after h (command_sent meaning))
same_history h meaning none = ap (λ (c : Option Asked). Live (history_after h c)) (sym none)

calls_over : (h : History) (meaning : RequestMeaning) (calls : List Call) → command_sent meaning ≡ None → AreQuestions (most_questions meaning) calls → AreCallsOver h (command_sent meaning) (most_questions meaning) calls
calls_over h meaning calls none asked = subst (λ (c : Option Asked). AreCallsOver h c (most_questions meaning) calls) (sym none) asked

undone : (meaning : RequestMeaning) (refusal : Refusal) (calls : List Call) → command_sent meaning ≡ None → AreQuestions (most_questions meaning) calls → AreUndone (command_sent meaning) refusal (most_questions meaning) calls
undone meaning refusal calls none asked = subst (λ (c : Option Asked). AreUndone c refusal (most_questions meaning) calls) (sym none) asked

-- no call, and one
pub not_asked : (most : ℕ) → AreQuestions most []
not_asked most = (tt, omega arith)

pub one_question : AreQuestions 1 (nothing_sent ∷ [])
one_question = ((refl, tt), omega arith)

-- what is asked of the registry takes a question
takes_one : (meaning : RequestMeaning) → known_answer meaning ≡ None → 1 ≤ most_questions meaning
takes_one (Answered given) none = absurd cc
takes_one (Denied refusal format) none = absurd cc
takes_one (Obeys command format) none = omega arith
takes_one (Asks question format) none = omega arith

asked_once : (meaning : RequestMeaning) → known_answer meaning ≡ None → AreQuestions (most_questions meaning) (nothing_sent ∷ [])
asked_once meaning none = ((refl, tt), takes_one meaning none)

-- the reply is the answer
pub body_met : (k now : Known) (meaning : RequestMeaning) (head : ReplyHead) (body : ReplyBody) (given : Answer) (calls : List Call) → IsBodyOf head body given → IsMeaningMet k meaning given calls now → IsBodyMet k meaning head body calls now
body_met k now meaning head (Bytes body) given calls e m = subst (λ g. IsMeaningMet k meaning g calls now) (sym e) m
body_met k now meaning head (Written content_length) given calls e m = absurd e

is_met_by : {E : Type 0} (k now : Known) (meaning : RequestMeaning) (result : Result HttpReply E) (given : Answer) (calls : List Call) → IfOk result (λ reply. IsReplyOf reply given) → IsMeaningMet k meaning given calls now → IsMetBy k meaning result calls now
is_met_by k now meaning (Ok reply) given calls is m = body_met k now meaning reply.head reply.body given calls is m
is_met_by k now meaning (Err e) given calls is m = (given, m)

-- what was found is no refusal
found_is_none : {X P : Type 0} (x : X) (e : Refusal) → Ok x ≡ Err e → P
found_is_none x e is = cc

-- an answer for which the registry is not asked
pub answered : (given : Answer) (k : Known) → IsMeaningMet k (Answered given) given [] k
unfolding answer_over
answered given (Live h) = AnsweredOver refl (not_asked 0) refl
answered given (Between before behind) = (AsEver refl refl, refl)
answered given Down = (AsEver refl refl, refl)

-- the sender or the form is refused
pub denied : (refusal : Refusal) (format : Format) (k : Known) → IsMeaningMet k (Denied refusal format) (outcome_answer format (Err refusal)) [] k
unfolding answer_over
denied refusal format (Live h) = AnsweredOver refl (not_asked 0) refl
denied refusal format (Between before behind) = (AsEver refl refl, refl)
denied refusal format Down = (AsEver refl refl, refl)

-- memory is short before the registry is asked
lacks : (meaning : RequestMeaning) (given : Answer) (k : Known) → LacksForm meaning given → IsMeaningMet k meaning given [] k
lacks meaning given (Live h) short = NotAsked short refl refl
lacks meaning given (Between before behind) short = (Short short refl, refl)
lacks meaning given Down short = (Short short refl, refl)

-- for the form of a command, or for its sender
pub short : (made : Result Command Refusal) (format : Format) (k : Known) → IsMeaningMet k (command_meaning format made) (outcome_answer format (Err refusals.Memory)) [] k
short (Ok command) format k = lacks (command_meaning format (Ok command)) (outcome_answer format (Err refusals.Memory)) k refl
short (Err e) format k = lacks (command_meaning format (Err e)) (outcome_answer format (Err refusals.Memory)) k refl

-- for an import, whoever sends it
pub short_sender : (format : Format) (s : Option Sending) (file : List ℕ) (k : Known) → IsMeaningMet k (import_meaning format s file) (outcome_answer format (Err refusals.Memory)) [] k
short_sender format None file k = lacks (import_meaning format None file) (outcome_answer format (Err refusals.Memory)) k refl
short_sender format (Some s) file k = lacks (import_meaning format (Some s) file) (outcome_answer format (Err refusals.Memory)) k refl

-- a command that was obeyed
pub obeyed_met : (c : Asked) (format : Format) (k now : Known) (result : Result Outcome Refusal) (calls : List Call) → IsCommandMet c k result calls now → IsMeaningMet k (Obeys c format) (outcome_answer format result) calls now
unfolding answer_over
obeyed_met c format (Live h) now result calls (inl (e, by, same)) = AnsweredOver (ap (outcome_answer format) e) (by ∙ ap (λ (r : Result Outcome Refusal). sends c r true ∷ []) e) same
obeyed_met c format (Live h) now (Ok reply) calls (inr (fault, where_now)) = absurd fault
obeyed_met c format (Live h) now (Err e) calls (inr (fault, inl (by, same))) = NotDone e fault (refl, refl) by same
obeyed_met c format (Live h) now (Err e) calls (inr (fault, inr (by, same))) = InDoubt e c fault (refl, refl) refl by same
obeyed_met c format (Between before behind) now result calls (e, asked, same) = (Refused (refl, ap (outcome_answer format) e) asked, same)
obeyed_met c format Down now result calls (e, asked, same) = (Refused (refl, ap (outcome_answer format) e) asked, same)

memory_or : (refusal : Refusal) (made : Result Command Refusal) → ((refusal ≡ refusals.Memory → ⊥) → made ≡ Err refusal) → (refusal ≡ refusals.Memory) ⊎ (made ≡ Err refusal)
memory_or refusals.Memory made f = inl refl
memory_or refusal made f = inr (f (λ e. cc))

-- the form of a command is refused, or memory is short for it
pub form_refused : (refusal : Refusal) (made : Result Command Refusal) (format : Format) → ((refusal ≡ refusals.Memory → ⊥) → made ≡ Err refusal) → (k : Known) → IsMeaningMet k (command_meaning format made) (outcome_answer format (Err refusal)) [] k
form_refused refusal made format f k = by_cause (memory_or refusal made f)
  where
    by_cause : (refusal ≡ refusals.Memory) ⊎ (made ≡ Err refusal) → IsMeaningMet k (command_meaning format made) (outcome_answer format (Err refusal)) [] k
    by_cause (inl e) = subst (λ (r : Refusal). IsMeaningMet k (command_meaning format made) (outcome_answer format (Err r)) [] k) (sym e) (short made format k)
    by_cause (inr e) = subst (λ (m : Result Command Refusal). IsMeaningMet k (command_meaning format m) (outcome_answer format (Err refusal)) [] k) (sym e) (denied refusal format k)

module _ {R : Type 0} (registry : Ghosts R) where
  -- one call, which did what lives ask of it
  abbrev pub one_call : (old new : R) (call : Call) → Does registry.showing old call new → (registry.is_live old ≡ false → new ≡ old) → LivesOn registry old new
  one_call old new call does rests = record { rests = rests; calls = call ∷ []; lead = (new, does, refl) }

  -- it is live while it shows a history, and not when it has failed between two
  abbrev pub Lives : Type 0
  Lives = ShowsWhileLive registry.showing registry.is_live

  -- a question
  abbrev pub asked_on : {X : Type 0} (old new : R) (result : Result X Refusal) (Says : History → X → Type 0) → IsAnswered registry.showing registry.is_live old new result Says → LivesOn registry old new
  asked_on old new result Says a = one_call old new nothing_sent a.calls (λ off. (a.failed off).1)

  over_command : Lives → (new : R) (result : Result Outcome Refusal) (h : History) (c : Asked) (calls : List Call) → calls ≡ sends c result (registry.is_live new) ∷ [] → CommandLeaves registry.showing result new h c
      → (now : Known) × IsKnownOf registry new now × IsCommandMet c (Live h) result calls now
  over_command lives new result h c calls by obeys = by_case obeys
    where
      at : (live : Bool) → registry.is_live new ≡ live → calls ≡ sends c result live ∷ []
      at live is = by ∙ ap (λ (b : Bool). sends c result b ∷ []) is

      by_case : CommandLeaves registry.showing result new h c → (now : Known) × IsKnownOf registry new now × IsCommandMet c (Live h) result calls now
      by_case (inl (e, shows)) = (Live (after h c), shows, inl (e, at true (lives.shown new (after h c) shows), refl))
      by_case (inr (fault, inl shows)) = (Live h, shows, inr (fault, inl (at true (lives.shown new h shows), refl)))
      by_case (inr (fault, inr fails)) = (Between h (after h c), fails, inr (fault, inr (at false (lives.fallen new h (after h c) fails), refl)))

  -- one that had failed before sends nothing
  nothing_by : (new : R) (result : Result Outcome Refusal) (c : Asked) (calls : List Call) → calls ≡ sends c result (registry.is_live new) ∷ [] → result ≡ Err refusals.Failed → AreQuestions 1 calls
  nothing_by new result c calls by e = subst (AreQuestions 1) (sym (by ∙ ap (λ (r : Result Outcome Refusal). sends c r (registry.is_live new) ∷ []) e)) one_question

  -- a command, by what is said of `obey`
  pub obeys_so : Lives → (old new : R) (result : Result Outcome Refusal) (c : Asked) (lives : LivesOn registry old new) → lives.calls ≡ sends c result (registry.is_live new) ∷ []
      → (registry.showing.is_clean new → registry.showing.is_clean old) → (registry.is_live old ≡ false → (result ≡ Err refusals.Failed) × (new ≡ old))
      → (registry.showing.is_clean new → (h : History) → registry.showing.shows old h → CommandLeaves registry.showing result new h c) → Goes registry old new (λ k calls now. IsCommandMet c k result calls now)
  obeys_so alive old new result c lives by clean failed obeys = record { lives = lives; served = record { good = clean; leads = leads } }
    where
      leads : registry.showing.is_clean new → (k : Known) → IsKnownOf registry old k → (now : Known) × IsKnownOf registry new now × IsCommandMet c k result lives.calls now
      leads good (Live h) shows = over_command alive new result h c lives.calls by (obeys good h shows)
      leads good (Between before behind) fails =
          let f = failed (alive.fallen old before behind fails) in
          (Between before behind, subst (λ r. registry.showing.fails_between r before behind) (sym f.1) fails, (f.0, nothing_by new result c lives.calls by f.0, refl))
      leads good Down off = let f = failed off in (Down, subst (λ r. registry.is_live r ≡ false) (sym f.1) off, (f.0, nothing_by new result c lives.calls by f.0, refl))

  pub obeyed : Lives → (old new : R) (result : Result Outcome Refusal) (c : Asked) → Does registry.showing old (sends c result (registry.is_live new)) new
      → (registry.is_live old ≡ false → (result ≡ Err refusals.Failed) × (new ≡ old))
      → (registry.showing.is_clean new → (h : History) → registry.showing.shows old h → CommandLeaves registry.showing result new h c) → Goes registry old new (λ k calls now. IsCommandMet c k result calls now)
  obeyed alive old new result c does failed obeys =
      obeys_so alive old new result c (one_call old new (sends c result (registry.is_live new)) does (λ off. (failed off).1)) refl does.clean failed obeys

  -- one that has failed answers that it has, and stays
  down : {X : Type 0} (old new : R) (result : Result X Refusal) (Says : History → X → Type 0) → IsAnswered registry.showing registry.is_live old new result Says → (k : Known) → registry.is_live old ≡ false → IsKnownOf registry old k
      → (result ≡ Err refusals.Failed) × IsKnownOf registry new k
  down old new result Says a k off known = let f = a.failed off in (f.0, subst (λ r. IsKnownOf registry r k) (sym f.1) known)

  over_history : {X : Type 0} (result : Result X Refusal) (Says : History → X → Type 0) (format : Format) (found : X → Answer) (meaning : RequestMeaning) (calls : List Call) → AreQuestions (most_questions meaning) calls → IsQuestion format found Says meaning
      → (h : History) → MatchResult result (Says h) IsMemoryOrStore → IsMetOver h meaning (answer_or format found result) calls (Live h)
  over_history (Ok x) Says format found meaning calls asked q h says = AnsweredOver (q.over h x says) (calls_over h meaning calls q.no_command asked) (same_history h meaning q.no_command)
  over_history (Err e) Says format found meaning calls asked q h fault = NotDone e fault (q.refused e) (undone meaning e calls q.no_command asked) refl

  -- the answer of one that has failed
  failed_so : {X : Type 0} (result : Result X Refusal) (format : Format) (found : X → Answer) (meaning : RequestMeaning) → ((e : Refusal) → IsMeaningRefused meaning e (outcome_answer format (Err e)))
      → result ≡ Err refusals.Failed → IsMeaningRefused meaning refusals.Failed (answer_or format found result)
  failed_so result format found meaning refused e = let r = refused refusals.Failed in (r.0, ap (answer_or format found) e ∙ r.1)

  met : Lives → {X : Type 0} (old new : R) (result : Result X Refusal) (Says : History → X → Type 0) (format : Format) (found : X → Answer) (meaning : RequestMeaning)
      → IsQuestion format found Says meaning → IsAnswered registry.showing registry.is_live old new result Says → registry.showing.is_clean new → (k : Known) → IsKnownOf registry old k
      → (now : Known) × IsKnownOf registry new now × IsMeaningMet k meaning (answer_or format found result) (nothing_sent ∷ []) now
  met alive old new result Says format found meaning q a good (Live h) shows =
      let t = a.told good h shows in (Live h, t.1, over_history result Says format found meaning (nothing_sent ∷ []) (asked_once meaning (q.refused refusals.Failed).0) q h t.0)
  met alive old new result Says format found meaning q a good (Between before behind) fails =
      let d = down old new result Says a (Between before behind) (alive.fallen old before behind fails) fails in
      (Between before behind, d.1, (Refused (failed_so result format found meaning q.refused d.0) one_question, refl))
  met alive old new result Says format found meaning q a good Down off =
      let d = down old new result Says a Down off off in
      (Down, d.1, (Refused (failed_so result format found meaning q.refused d.0) one_question, refl))

  pub question_met : Lives → {X : Type 0} (old new : R) (result : Result X Refusal) (Says : History → X → Type 0) (format : Format) (found : X → Answer) (meaning : RequestMeaning)
      → IsQuestion format found Says meaning → IsAnswered registry.showing registry.is_live old new result Says → Goes registry old new (λ k calls now. IsMeaningMet k meaning (answer_or format found result) calls now)
  question_met alive old new result Says format found meaning q a = record {
    lives = asked_on old new result Says a;
    served = record { good = a.calls.clean; leads = λ good k known. met alive old new result Says format found meaning q a good k known };
  }

  -- a call of its own kind, which sends nothing: what it comes to over a history, and where the registry had failed
  pub from_call : Lives → (old new : R) (meaning : RequestMeaning) (given : Answer) (lives : LivesOn registry old new) → (registry.showing.is_clean new → registry.showing.is_clean old)
      → (registry.showing.is_clean new → (h : History) → registry.showing.shows old h → (now : Known) × IsKnownOf registry new now × IsMetOver h meaning given lives.calls now)
      → (registry.is_live old ≡ false → IsFailedAnswer meaning given lives.calls) → Goes registry old new (λ k calls now. IsMeaningMet k meaning given calls now)
  from_call alive old new meaning given lives clean over failed = record { lives = lives; served = record { good = clean; leads = leads } }
    where
      leads : registry.showing.is_clean new → (k : Known) → IsKnownOf registry old k → (now : Known) × IsKnownOf registry new now × IsMeaningMet k meaning given lives.calls now
      leads good (Live h) shows = over good h shows
      leads good (Between before behind) fails =
          (Between before behind, subst (λ r. registry.showing.fails_between r before behind) (sym (lives.rests (alive.fallen old before behind fails))) fails, (failed (alive.fallen old before behind fails), refl))
      leads good Down off = (Down, subst (λ r. registry.is_live r ≡ false) (sym (lives.rests off)) off, (failed off, refl))

  over_there : {X Y : Type 0} (result : Result X Refusal) (there : History → Option Y) (means : X → Y) (format : Format) (found : X → Answer) (meaning : RequestMeaning) → IsQuestionIfThere format found there means meaning
      → (h : History) → MatchResult result (λ x. there h ≡ Some (means x)) (IsMissing (there h)) → IsMetOver h meaning (answer_or format found result) (nothing_sent ∷ []) (Live h)
  over_there result there means format found meaning q h says =
      by_result result says
    where
      asked : AreQuestions (most_questions meaning) (nothing_sent ∷ [])
      asked = asked_once meaning (q.refused refusals.Failed).0

      done : (given : Answer) → given ≡ answer_over h meaning → IsMetOver h meaning given (nothing_sent ∷ []) (Live h)
      done given is = AnsweredOver is (calls_over h meaning (nothing_sent ∷ []) q.no_command asked) (same_history h meaning q.no_command)

      by_result : (result : Result _ Refusal) → MatchResult result (λ x. there h ≡ Some (means x)) (IsMissing (there h)) → IsMetOver h meaning (answer_or format found result) (nothing_sent ∷ []) (Live h)
      by_result (Ok x) is = done (found x) (q.over h x is)
      by_result (Err e) (inl (missing, none)) = done (outcome_answer format (Err e)) (ap (λ (x : Refusal). outcome_answer format (Err x)) missing ∙ q.missing h none)
      by_result (Err e) (inr fault) = NotDone e fault (q.refused e) (undone meaning e (nothing_sent ∷ []) q.no_command asked) refl

  -- a question for something that may not be there
  pub if_there_met : Lives → {X Y : Type 0} (old new : R) (result : Result X Refusal) (there : History → Option Y) (means : X → Y) (format : Format) (found : X → Answer) (meaning : RequestMeaning)
      → IsQuestionIfThere format found there means meaning → IsAnsweredIfThere registry.showing registry.is_live old new result there means → Goes registry old new (λ k calls now. IsMeaningMet k meaning (answer_or format found result) calls now)
  if_there_met alive old new result there means format found meaning q a =
      from_call alive old new meaning (answer_or format found result) (one_call old new nothing_sent a.calls (λ off. (a.failed off).1)) a.calls.clean
      (λ good h shows. let t = a.told good h shows in (Live h, t.1, over_there result there means format found meaning q h t.0))
      (λ off. Refused (failed_so result format found meaning q.refused (a.failed off).0) one_question)

  by_found : {Y : Type 0} (result : Result Y Refusal) (P Q : Y → Type 0) (M : Refusal → Type 0) → ((y : Y) → P y → Q y) → MatchResult result P M → MatchResult result Q M
  by_found (Ok y) P Q M f m = f y m
  by_found (Err e) P Q M f m = m

  -- two questions, one after the other
  pub question_then : Lives → {X Y : Type 0} (old mid new : R) (first : X) (result : Result Y Refusal) (Holds : History → X → Type 0) (Tells Says : History → Y → Type 0) (format : Format) (found : Y → Answer) (meaning : RequestMeaning)
      → IsQuestion format found Says meaning → 2 ≤ most_questions meaning → ((h : History) (y : Y) → Holds h first → Tells h y → Says h y) → IsAnswered registry.showing registry.is_live old mid (Ok first) Holds → IsAnswered registry.showing registry.is_live mid new result Tells
      → Goes registry old new (λ k calls now. IsMeaningMet k meaning (answer_or format found result) calls now)
  question_then alive old mid new first result Holds Tells Says format found meaning q twice both a b =
      let lives : LivesOn registry old new = record {
        rests = λ off. found_is_none first refusals.Failed (a.failed off).0;
        calls = nothing_sent ∷ nothing_sent ∷ [];
        lead = (mid, a.calls, (new, b.calls, refl));
      } in
      from_call alive old new meaning (answer_or format found result) lives (λ clean. a.calls.clean (b.calls.clean clean))
      (λ good h shows.
      let t = a.told (b.calls.clean good) h shows in
      let u = b.told good h t.1 in
      (Live h, u.1, over_history result Says format found meaning (nothing_sent ∷ nothing_sent ∷ []) ((refl, (refl, tt)), twice) q h (by_found result (Tells h) (Says h) IsMemoryOrStore (λ y tells. both h y t.0 tells) u.0)))
      (λ off. found_is_none first refusals.Failed (a.failed off).0)

  -- an answer says what follows from it
  pub answers_by : {Y : Type 0} (old new : R) (result : Result Y Refusal) (Tells Says : History → Y → Type 0) → ((h : History) (y : Y) → Tells h y → Says h y) → IsAnswered registry.showing registry.is_live old new result Tells → IsAnswered registry.showing registry.is_live old new result Says
  answers_by old new result Tells Says f a = record {
    calls = a.calls;
    failed = a.failed;
    told = λ good h shows. let t = a.told good h shows in (by_found result (Tells h) (Says h) IsMemoryOrStore (f h) t.0, t.1);
    beside = a.beside;
  }

  -- the same of something else that is found
  pub answers_so : {X Y : Type 0} (old new : R) (x : X) (y : Y) (Holds : History → X → Type 0) (Says : History → Y → Type 0) → ((h : History) → Holds h x → Says h y) → IsAnswered registry.showing registry.is_live old new (Ok x) Holds → IsAnswered registry.showing registry.is_live old new (Ok y) Says
  answers_so old new x y Holds Says f a = record {
    calls = a.calls;
    failed = λ off. found_is_none x refusals.Failed (a.failed off).0;
    told = λ good h shows. let t = a.told good h shows in (f h t.0, t.1);
    beside = a.beside;
  }

  pub turned : (old new : R) {P Q : Known → List Call → Known → Type 0} → ((k : Known) (calls : List Call) (now : Known) → P k calls now → Q k calls now) → Goes registry old new P → Goes registry old new Q
  turned old new f g = record {
    lives = g.lives;
    served = record { good = g.served.good; leads = λ good k known. let x = g.served.leads good k known in (x.0, x.1, f k g.lives.calls x.0 x.2) };
  }

  -- no call was made
  pub no_call : (r : R) (P : Known → List Call → Known → Type 0) → ((k : Known) → P k [] k) → Goes registry r r P
  no_call r P p = record { lives = record { rests = λ off. refl; calls = []; lead = refl }; served = record { good = λ c. c; leads = λ good k known. (k, known, p k) } }

  pub replied : {E : Type 0} (old new : R) (meaning : RequestMeaning) (result : Result HttpReply E) (given : Answer) → IfOk result (λ reply. IsReplyOf reply given) → Goes registry old new (λ k calls now. IsMeaningMet k meaning given calls now)
      → Goes registry old new (λ k calls now. IsMetBy k meaning result calls now)
  replied old new meaning result given is goes = turned old new (λ k calls now m. is_met_by k now meaning result given calls is m) goes

  -- a question of its own kind that is refused
  pub refused_call : Lives → {X : Type 0} (old new : R) (e : Refusal) (Says : History → X → Type 0) (format : Format) (meaning : RequestMeaning)
      → ((x : Refusal) → IsMeaningRefused meaning x (outcome_answer format (Err x))) → command_sent meaning ≡ None → IsAnswered registry.showing registry.is_live old new (Err e) Says
      → Goes registry old new (λ k calls now. IsMeaningMet k meaning (outcome_answer format (Err e)) calls now)
  refused_call alive {X} old new e Says format meaning refused none a =
      from_call alive old new meaning (outcome_answer format (Err e)) (asked_on old new (Err e) Says a) a.calls.clean
      (λ good h shows. let t = a.told good h shows in (Live h, t.1, NotDone e t.0 (refused e) (undone meaning e (nothing_sent ∷ []) none (asked_once meaning (refused e).0)) refl))
      (λ off. Refused (failed_so (Err e) format (λ (x : X). outcome_answer format (Err e)) meaning refused (a.failed off).0) one_question)

  -- what is known of the registry within its session
  pub within_session : (old new : R) (P : Known → List Call → Known → Type 0) → Goes registry old new P → Leads registry.showing.is_clean (IsSessionState registry) old new (λ t u. ByCalls registry t u (λ calls. P t.known calls u.known))
  within_session old new P g = record {
    good = g.served.good;
    leads = λ good t is.
        let x = g.served.leads good t.known is.is_known in (
          record { start = t.start; calls = t.calls ++ g.lives.calls; known = x.0 },
          record { is_known = x.1; lead = calls_join registry.showing t.start old new t.calls g.lives.calls is.lead g.lives.lead },
          record { same_session = refl; more = g.lives.calls; joined = refl; holds = x.2 },
        );
  }
