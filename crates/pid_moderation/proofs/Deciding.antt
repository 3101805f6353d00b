-- From what is decided by facts to what is decided over a history.
use Rattle.std.proofs.Common.{◌≡◌, ◌≢◌, true, false, Some, None, refl, sym, ap, subst, ◌∙◌}
use Rattle.std.specs.Prelude.{Result, Ok, Err, IfOk, IfErr}
use Rattle.pid_moderation.specs.declared.command.Reply.{Reply}
use Rattle.pid_moderation.specs.declared.facts.Facts.{Facts}
use Rattle.pid_moderation.specs.declared.change.Change.{Change}
use Rattle.pid_moderation.specs.declared.refusal.Refusal.{Refusal}
use Rattle.pid_moderation.specs.declared.refusal.Refusal.TheVariants.{BadText, Memory}
use Rattle.pid_moderation.specs.History.{Asked, History}
use Rattle.pid_moderation.specs.Views.{Views, views_of}
use Rattle.pid_moderation.specs.Changes.{changed, with_pairs}
use Rattle.pid_moderation.specs.FactsOfViews.{facts_of}
use Rattle.pid_moderation.specs.CheckTables.{checks, first_failing, is_ill_formed, reply_by_facts}
use Rattle.pid_moderation.specs.Judgement.{judged, judge, answer, added, unless, Outcome, Refused, Repeated, Accepts}
use Rattle.pid_moderation.specs.Effects.{change_by, change_of, new_pairs, Decides, LeadsOn}
use Rattle.pid_moderation.specs.Steps.Following.{FollowsChecks}
use Rattle.pid_moderation.specs.Revisions.{IsMarked}
use Rattle.pid_moderation.proofs.Changing.{changing, unchanged}

pub ill_formed : (f : Facts) (c : Asked) → is_ill_formed f c.deed ≡ true → judged f c ≡ Refused BadText
ill_formed f c h = rw h refl

pub kept : (f : Facts) (c : Asked) (reply : Reply) → is_ill_formed f c.deed ≡ false → f.kept ≡ Some reply → judged f c ≡ Repeated reply
kept f c reply h k = rw (h, k) refl

pub refused : (f : Facts) (c : Asked) (e : Refusal) → is_ill_formed f c.deed ≡ false → f.kept ≡ None → first_failing (checks f c) ≡ Some e → judged f c ≡ Refused e
refused f c e h k r = rw (h, k) (ap (λ o. unless o (reply_by_facts f c.deed)) r)

pub accepted : (f : Facts) (c : Asked) → is_ill_formed f c.deed ≡ false → f.kept ≡ None → first_failing (checks f c) ≡ None → judged f c ≡ Accepts (reply_by_facts f c.deed)
accepted f c h k r = rw (h, k) (ap (λ o. unless o (reply_by_facts f c.deed)) r)

-- what follows the checks, where no rule of form is broken and no reply is kept
pub decided : (f : Facts) (c : Asked) (result : Result (Change × Reply) Refusal) → is_ill_formed f c.deed ≡ false → f.kept ≡ None → FollowsChecks (checks f c) (change_of f c (reply_by_facts f c.deed), reply_by_facts f c.deed) result → Decides f c result
decided f c (Ok d) good new h =
    let is = accepted f c good new h.0 in
    (ap answer is ∙ ap Ok (sym (ap (λ (p : Change × Reply). p.1) h.1)), ap (λ (p : Change × Reply). p.0) h.1 ∙ ap (change_by f c) (sym is))
decided f c (Err e) good new h = λ m. ap answer (refused f c e good new (h m))

leads : (h : History) (c : Asked) (o : Outcome) → IsMarked h → views_of (added h c o) ≡ changed (change_by (facts_of (views_of h) c) c o) (with_pairs (new_pairs o c.deed) (views_of h))
leads h c (Refused e) marked = unchanged h c
leads h c (Repeated reply) marked = unchanged h c
leads h c (Accepts reply) marked = changing h c.account c.key c.deed reply marked

pub answered : (f : Facts) (c : Asked) (result : Result (Change × Reply) Refusal) → Decides f c result → (v : Views) → f ≡ facts_of v c → IfOk result (λ d. answer (judge v c) ≡ Ok d.1)
answered f c (Ok d) h v e = subst (λ (g : Facts). answer (judged g c) ≡ Ok d.1) e h.0
answered f c (Err r) h v e = tt

pub turned_down : (f : Facts) (c : Asked) (result : Result (Change × Reply) Refusal) → Decides f c result → (v : Views) → f ≡ facts_of v c → IfErr result (λ r. r ≢ Memory → answer (judge v c) ≡ Err r)
turned_down f c (Ok d) h v e = tt
turned_down f c (Err r) h v e = λ m. subst (λ (g : Facts). answer (judged g c) ≡ Err r) e (h m)

pub leading : (f : Facts) (c : Asked) (result : Result (Change × Reply) Refusal) → Decides f c result → (h : History) → IsMarked h → f ≡ facts_of (views_of h) c → IfOk result (λ d. LeadsOn h c d.0)
leading f c (Ok d) h hist marked e =
    let same : d.0 ≡ change_by (facts_of (views_of hist) c) c (judge (views_of hist) c) = h.1 ∙ ap (λ (g : Facts). change_by g c (judged g c)) e in
    leads hist c (judge (views_of hist) c) marked ∙ ap (λ (change : Change). changed change (with_pairs (new_pairs (judge (views_of hist) c) c.deed) (views_of hist))) (sym same)
leading f c (Err r) h hist marked e = tt
