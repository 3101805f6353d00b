-- What is written of a text that was promised.
use Rattle.std.proofs.Common.{◌≡◌, ℕ, false, List, [], ◌++◌, Option, Result, Ok, Err, length, take, refl, sym, ap, subst, ◌∙◌, length-append, arith}
use Rattle.std.specs.Io.KnownBytes.{Appends}
use Rattle.std.proofs.KnownBytes.{Appends-nil}
use Rattle.std.proofs.Math.Seq.{take-append_seam}
use Rattle.pid_service_laws.specs.declared.registry_calls.RegistryCalls.{Ghosts}
use Rattle.pid_ident.specs.Sending.{SendsFront}
use Rattle.pid_file.specs.declared.io.WriteFault.{WriteFault}
use Rattle.pid_moderation.specs.History.{History}
use Rattle.pid_moderation.specs.Writes.{tree_of}
use Rattle.pid_moderation.specs.declared.refusal.Refusal.{Refusal}
use Rattle.pid_moderation.specs.declared.refusal.Refusal.TheVariants as refusals
use Rattle.pid_service_laws.specs.Questions.{IsAnswered, ShowsWhileLive}
use Rattle.pid_service_laws.specs.Moderating.{ExportsText}
use Rattle.pid_service_laws.specs.declared.faults.ExportFault.{ExportFault}
use Rattle.pid_service_laws.specs.declared.faults.ExportFault.TheVariants.{Refused, Write}
use Rattle.pid_file.specs.Printing.{print}
use Rattle.pid_http_stream.specs.Serving.{WritesFront}
use Rattle.pid_http_stream.specs.declared.reply_head.ReplyHead.{ReplyHead}
use Rattle.pid_http_stream.specs.declared.reply_head.Content.TheVariants.{Text}
use Rattle.pid_http_stream.specs.Leading.{Leads}
use Rattle.pid_http.specs.Answering.{Asks}
use Rattle.pid_http.specs.declared.api.format.Format.{Format}
use Rattle.pid_http.specs.declared.api.question.Question.TheVariants.{Whole}
use Rattle.pid_http.specs.declared.api.route_table.Whole.TheVariants.{Export}
use Rattle.pid_http.specs.Steps.Handling.{WritesText, WritesOver}
use Rattle.pid_http.specs.Known.{Known, Live, Between, Down, IsKnownOf, LivesOn, SessionState, IsSessionState}
use Rattle.pid_http.specs.Steps.Going.{Goes, calls_join}
use Rattle.pid_http.specs.Serving.{AreQuestions, IsPromised}

-- the length of the text was answered
pub length_answered : {R : Type 0} (registry : Ghosts R) → ShowsWhileLive registry.showing registry.is_live → (old new : R) (n : ℕ) (format : Format) (head : ReplyHead) (lives : LivesOn registry old new) → head.status ≡ 200 → head.content ≡ Text
    → IsAnswered registry.showing registry.is_live old new (Ok n) (λ h n. n ≡ length (print (tree_of h))) → AreQuestions 1 lives.calls → Goes registry old new (λ k calls now. IsPromised k (Asks (Whole Export) format) head n calls now)
length_answered registry alive old new n format head lives status content a nothing = record { lives = lives; served = record { good = a.calls.clean; leads = leads } }
  where
    leads : registry.showing.is_clean new → (k : Known) → IsKnownOf registry old k → (now : Known) × IsKnownOf registry new now × IsPromised k (Asks (Whole Export) format) head n lives.calls now
    leads good (Live h) shows = let t = a.told good h shows in (Live h, t.1, ((format, refl), record { status = status; content = content; length_is = t.0 }, nothing, refl))
    leads good (Between before behind) fails = let e = (a.failed (alive.fallen old before behind fails)).0 in absurd cc
    leads good Down off = let e = (a.failed off).0 in absurd cc

-- an export that was refused: whole lines are a front of the text
pub exported_lines : (X : Type 0) (old new : Option (List ℕ)) (text : List ℕ) (end : ExportFault) (e : Refusal) → end ≡ Refused e → ExportsText {X = X} (Err end) old new text → WritesFront old new text
exported_lines X old new text end e is says = lines (subst (λ x. ExportsText {X = X} (Err x) old new text) is says)
  where
    lines : ExportsText {X = X} (Err (Refused e)) old new text → WritesFront old new text
    lines (fault, took) =
        let size = ap length took.whole.is ∙ length-append took.front took.whole.behind in (
          length took.front,
          omega (arith, size),
          subst (Appends old new) (sym (ap (take (length took.front)) took.whole.is ∙ take-append_seam took.front took.whole.behind)) took.told,
        )

front_short : (old new : Option (List ℕ)) (bytes : List ℕ) → SendsFront old new bytes → WritesFront old new bytes
front_short old new bytes (n, less, appends) = (n, omega (arith, less), appends)

pub exported_front : (X : Type 0) (old new : Option (List ℕ)) (text : List ℕ) (end : ExportFault) (f : WriteFault) → end ≡ Write f → ExportsText {X = X} (Err end) old new text → WritesFront old new text
exported_front X old new text end f is sent = front_short old new text (subst (λ x. ExportsText {X = X} (Err x) old new text) is sent)

pub nothing_written : (old new : Option (List ℕ)) → new ≡ old → WritesFront old new []
nothing_written old new same = (0, omega arith, subst (λ x. Appends old x []) (sym same) (Appends-nil old))

-- one that has failed writes nothing
pub not_all : {X : Type 0} (P : Type 0) (x : X) → ◌≡◌ {A = Result X ExportFault} (Ok x) (Err (Refused refusals.Failed)) → P
not_all P x is = absurd cc

-- the text was written, so far
pub written : {R : Type 0} (registry : Ghosts R) → ShowsWhileLive registry.showing registry.is_live → (old new : R) (Took : List ℕ → Type 0) (lives : LivesOn registry old new) → AreQuestions 1 lives.calls → (registry.showing.is_clean new → registry.showing.is_clean old)
    → (registry.showing.is_clean new → (h : History) → registry.showing.shows old h → registry.showing.shows new h) → (registry.showing.is_clean new → (h : History) → registry.showing.shows old h → Took (print (tree_of h))) → (registry.is_live old ≡ false → Took [])
    → Leads registry.showing.is_clean (IsSessionState registry) old new (λ t u. (body : List ℕ) × WritesText registry t body u × Took body)
written registry alive old new Took lives nothing clean shown body off_body = record { good = clean; leads = leads }
  where
    over : registry.showing.is_clean new → (k : Known) → IsKnownOf registry old k → (now : Known) × IsKnownOf registry new now × ((b : List ℕ) × WritesOver k b now × Took b)
    over good (Live h) shows = (Live h, shown good h shows, (print (tree_of h), (refl, refl), body good h shows))
    over good (Between before behind) fails = (Between before behind, subst (λ x. registry.showing.fails_between x before behind) (sym (lives.rests (alive.fallen old before behind fails))) fails, ([], refl, off_body (alive.fallen old before behind fails)))
    over good Down off = (Down, subst (λ x. registry.is_live x ≡ false) (sym (lives.rests off)) off, ([], refl, off_body off))

    leads : registry.showing.is_clean new → (t : SessionState registry) → IsSessionState registry old t → (u : SessionState registry) × IsSessionState registry new u × ((b : List ℕ) × WritesText registry t b u × Took b)
    leads good t is =
        let x = over good t.known is.is_known in (
          record { start = t.start; calls = t.calls ++ lives.calls; known = x.0 },
          record { is_known = x.1; lead = calls_join registry.showing t.start old new t.calls lives.calls is.lead lives.lead },
          (x.2.0, record { same_session = refl; more = lives.calls; joined = refl; holds = (nothing, x.2.1) }, x.2.2),
        )
