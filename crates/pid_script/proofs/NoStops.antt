-- What forms and the judgement refuse is no stop.
use Rattle.std.proofs.Common.{◌≡◌, Bool, true, false, List, [], ◌∷◌, Option, Some, None, Err, refl, sym, ap, ◌∙◌, cond}
use Rattle.std.specs.Prelude.{ℕ, ◌++◌, find}
use Rattle.std.specs.Option.{option_map}
use Rattle.pid_moderation.specs.declared.refusal.Refusal.{Refusal}
use Rattle.pid_moderation.specs.declared.refusal.Refusal.TheVariants.{BadText}
use Rattle.pid_moderation.specs.declared.command.Reply.{Reply}
use Rattle.pid_moderation.specs.declared.verb.Verb.{Verb}
use Rattle.pid_moderation.specs.declared.verb.Verb.TheVariants as verbs
use Rattle.pid_moderation.specs.declared.facts.Facts.{Facts}
use Rattle.pid_moderation.specs.declared.facts.NamedSubmission.{NamedSubmission}
use Rattle.pid_moderation.specs.declared.facts.Verdict.{Verdict}
use Rattle.pid_moderation.specs.declared.facts.Verdict.TheVariants as verdicts
use Rattle.pid_moderation.specs.CheckTables.{Checks, checks, command_checks, revision_checks, first_failing, later_checks, if_named, comment_checks, withdraw_checks, decision_checks, approval_checks, file_checks, is_ill_formed, reply_by_facts}
use Rattle.pid_moderation.specs.FactsOfViews.{facts_of}
use Rattle.pid_moderation.specs.Fields.{Fields}
use Rattle.pid_moderation.specs.Forms.{form_checks}
use Rattle.pid_moderation.specs.History.{Deed, Ranks, Submits, Comments, Withdraws, Approves, Rejects, Imports, Asked}
use Rattle.pid_moderation.specs.Judgement.{Refused, judge, answer, unless, unless_kept}
use Rattle.pid_moderation.specs.Views.{Views}
use Rattle.pid_script.specs.StopLines.{is_stop}

-- none of the checks refuses with a stop
abbrev pub AreNoStops : Checks → Type 0
AreNoStops [] = Unit {0}
AreNoStops (c ∷ cs) = (is_stop c.1 ≡ false) × AreNoStops cs

found : (b : Bool) (e : Refusal) (rest : Option Refusal) (cs : Checks) → is_stop e ≡ false → (f : Refusal) → option_map (λ c. c.1) (cond b (Some (b, e)) (find (λ c. c.0) cs)) ≡ Some f → ((g : Refusal) → first_failing cs ≡ Some g → is_stop g ≡ false) → is_stop f ≡ false
found true e rest cs none f is more = let same : e ≡ f = cc in sym (ap is_stop same) ∙ none
found false e rest cs none f is more = more f is

pub none_stops : (cs : Checks) → AreNoStops cs → (e : Refusal) → first_failing cs ≡ Some e → is_stop e ≡ false
none_stops [] all e is = absurd cc
none_stops ((b, r) ∷ cs) all e is = found b r None cs all.0 e is (none_stops cs all.1)

pub no_form_stops : (verb : Verb) (account : List ℕ) (key : Option (List ℕ)) (fields : Fields) → AreNoStops (form_checks verb account key fields)
no_form_stops verbs.Account account key fields = (refl, (refl, (refl, (refl, (refl, tt)))))
no_form_stops verbs.Submit account key fields = (refl, (refl, (refl, (refl, (refl, (refl, (refl, tt)))))))
no_form_stops verbs.Comment account key fields = (refl, (refl, (refl, (refl, (refl, tt)))))
no_form_stops verbs.Withdraw account key fields = (refl, (refl, (refl, (refl, tt))))
no_form_stops verbs.Approve account key fields = (refl, (refl, (refl, (refl, tt))))
no_form_stops verbs.Confirm account key fields = (refl, (refl, (refl, (refl, (refl, tt)))))
no_form_stops verbs.Reject account key fields = (refl, (refl, (refl, (refl, (refl, tt)))))
no_form_stops verbs.Import account key fields = (refl, (refl, (refl, (refl, tt))))

named_stops : (named : Option NamedSubmission) (cs : NamedSubmission → Checks) → ((s : NamedSubmission) → AreNoStops (cs s)) → AreNoStops (if_named named cs)
named_stops None cs all = (refl, tt)
named_stops (Some s) cs all = all s

file_stops : (file : Option Verdict) → AreNoStops (file_checks file)
file_stops None = (refl, tt)
file_stops (Some (verdicts.Faulty fault)) = (refl, tt)
file_stops (Some (verdicts.Good added renamed same items)) = (refl, tt)

later_stops : (account : List ℕ) (f : Facts) (deed : Deed) → AreNoStops (later_checks account f deed)
later_stops account f (Ranks who rank) = (refl, (refl, (refl, tt)))
later_stops account f (Submits path proposal note) = (refl, tt)
later_stops account f (Comments n text) = named_stops f.named (comment_checks f) (λ s. (refl, tt))
later_stops account f (Withdraws n) = named_stops f.named (withdraw_checks account) (λ s. (refl, (refl, tt)))
later_stops account f (Approves n e) = named_stops f.named (approval_checks account f e) (λ s. (refl, (refl, (refl, (refl, (refl, (refl, (refl, (refl, tt)))))))))
later_stops account f (Rejects n reason) = named_stops f.named (decision_checks account f.rank) (λ s. (refl, (refl, (refl, tt))))
later_stops account f (Imports reading) = (refl, file_stops f.file)

both_stop : (first second : Checks) → AreNoStops first → AreNoStops second → AreNoStops (first ++ second)
both_stop [] second none more = more
both_stop (c ∷ cs) second none more = (none.0, both_stop cs second none.1 more)

outcome_stops : (ill : Bool) (f : Facts) (c : Asked) (kept : Option Reply) (failing : Option Refusal) → ((g : Refusal) → failing ≡ Some g → is_stop g ≡ false) → (e : Refusal) → answer (cond ill (Refused BadText) (unless_kept kept (unless failing (reply_by_facts f c.deed)))) ≡ Err e → is_stop e ≡ false
outcome_stops true f c kept failing none e is = let same : BadText ≡ e = cc in sym (ap is_stop same)
outcome_stops false f c (Some reply) failing none e is = absurd cc
outcome_stops false f c None None none e is = absurd cc
outcome_stops false f c None (Some g) none e is = let same : g ≡ e = cc in sym (ap is_stop same) ∙ none g refl

-- a judgement refuses with no stop
pub judged_no_stop : (v : Views) (c : Asked) (e : Refusal) → answer (judge v c) ≡ Err e → is_stop e ≡ false
judged_no_stop v c e is = outcome_stops (is_ill_formed (facts_of v c) c.deed) (facts_of v c) c (facts_of v c).kept (first_failing (checks (facts_of v c) c)) (none_stops (checks (facts_of v c) c)
    (both_stop (command_checks (facts_of v c) c) (revision_checks (facts_of v c)) (refl, later_stops c.account (facts_of v c) c.deed) (refl, tt))) e is
