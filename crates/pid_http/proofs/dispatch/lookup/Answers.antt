use Rattle.std.proofs.Common.{◌≡◌, Bool, true, false, [], ◌∷◌, Result, Ok, Err, refl, sym, ap, ◌∙◌, inl}
use Rattle.std.specs.Prelude.{if◌then◌else◌}
use Rattle.pid_lookup.specs.Answers.{answer_of}
use Rattle.pid_lookup.specs.Fields.{Lookup}
use Rattle.pid_lookup.specs.Flags.{is_bad}
use Rattle.pid_lookup.specs.declared.answer.Answer.{Answer as Found}
use Rattle.pid_lookup.specs.declared.answering.LookupRefusal.{LookupRefusal}
use Rattle.pid_lookup.specs.declared.answering.LookupRefusal.TheVariants as lookups
use Rattle.pid_service_laws.specs.Calls.{nothing_sent}
use Rattle.pid_moderation.specs.History.{History}
use Rattle.pid_moderation.specs.Writes.{tree_of}
use Rattle.pid_moderation.specs.declared.refusal.Refusal.{Refusal}
use Rattle.pid_moderation.specs.declared.refusal.Refusal.TheVariants.{Memory, Failed as HasFailed}
use Rattle.pid_service_laws.specs.Moderating.{LooksUp}
use Rattle.pid_http.specs.Api.LookupAnswers.{lookup_answer}
use Rattle.pid_http.specs.Answering.{answer_over, IsMeaningRefused, Asks}
use Rattle.pid_http.specs.declared.api.question.Question.TheVariants as questions
use Rattle.pid_http.specs.declared.api.format.Format.{Format}
use Rattle.pid_http.specs.Serving.{IsMetOver, AnsweredOver, NotDone, Refused}
use Rattle.pid_http.specs.Known.{Live}
use Rattle.pid_http.proofs.Meeting.{from_call, one_call, one_question, replied}
use Rattle.pid_http.proofs.dispatch.lookup.Goals as goal

abbrev lookup_in : Lookup → History → Result Found (LookupRefusal Refusal)
lookup_in l h = if is_bad l.flags then Err lookups.BadFlags else Ok (answer_of (tree_of h) l.flags l.args l.size)

-- by whether the flags are bad
by_flags : (l : Lookup) (h : History) (b : Bool) → is_bad l.flags ≡ b → (if b then Err lookups.BadFlags else Ok (answer_of (tree_of h) l.flags l.args l.size)) ≡ lookup_in l h
by_flags l h b e = ap (λ (x : Bool). if◌then◌else◌ {A = Result Found (LookupRefusal Refusal)} x (Err lookups.BadFlags) (Ok (answer_of (tree_of h) l.flags l.args l.size))) (sym e)

over : (l : Lookup) (format : Format) (h : History) (result : Result Found (LookupRefusal Refusal)) → LooksUp result (tree_of h) l.flags l.args l.size → IsMetOver h (Asks (questions.Lookup l.flags l.args l.size) format) (lookup_answer result) (nothing_sent ∷ []) (Live h)
unfolding answer_over
over l format h (Ok found) (good, is) = AnsweredOver (ap lookup_answer (ap Ok is ∙ by_flags l h false good)) one_question refl
over l format h (Err lookups.BadFlags) bad = AnsweredOver (ap lookup_answer (by_flags l h true bad)) one_question refl
over l format h (Err (lookups.Names f)) fault = NotDone f fault (refl, refl) one_question refl
over l format h (Err lookups.Memory) fault = NotDone Memory (inl refl) (refl, refl) one_question refl

failed : (l : Lookup) (format : Format) (result : Result Found (LookupRefusal Refusal)) → result ≡ Err (lookups.Names HasFailed) → IsMeaningRefused (Asks (questions.Lookup l.flags l.args l.size) format) HasFailed (lookup_answer result)
failed l format result e = (refl, ap lookup_answer e)

pub returns : goal.returns
returns g c format =
    let l : Lookup = record { flags = c.args.flags; args = c.args.args; size = c.args.size } in
    let e = c.lookup-found.ensures in
    replied _ _ _ _ _ _ c.lookup_reply.ensures (from_call _ g.met.R.RegistryCalls.lives _ _ _ (lookup_answer c.lookup-found.result)
    (one_call _ _ _ nothing_sent e.calls (λ off. (e.failed off).1)) e.honest
    (λ clean h shows. (Live h, e.kept.shown clean h shows, over l format h c.lookup-found.result (e.told clean h shows)))
    (λ off. Refused (failed l format c.lookup-found.result (e.failed off).0) one_question))
