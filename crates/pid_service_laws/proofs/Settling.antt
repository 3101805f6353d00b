-- A command under a key, sent again after a stop.
use Rattle.std.proofs.Common.{◌≡◌, ℕ, Bool, true, false, List, Option, Some, Err, refl, sym, ap, subst, ◌∙◌}
use Rattle.pid_moderation.specs.declared.command.Reply.{Reply}
use Rattle.pid_moderation.specs.declared.refusal.Refusal.{Refusal}
use Rattle.pid_moderation.specs.FactsOfViews.{kept_in}
use Rattle.pid_moderation.specs.History.{Asked, More, History}
use Rattle.pid_moderation.specs.Judgement.{Outcome, Refused, Repeated, Accepts, judge, answer, added}
use Rattle.pid_moderation.specs.Views.{views_of}
use Rattle.pid_service_laws.specs.Doubts.{left_at_stop}
use Rattle.pid_service_laws.specs.SessionLaws.{EndsAlike}
use Rattle.pid_service_laws.proofs.Judging.{asks, entry, formed, repeats, same_form}
use Rattle.pid_service_laws.proofs.Keeping.{own_kept}

again : (h : History) (c : Asked) (key : List ℕ) (reply : Reply) → c.key ≡ Some key → judge (views_of h) c ≡ Accepts reply → judge (views_of (More (entry c reply) h)) c ≡ Repeated reply
again h c key reply is accepted =
    let g = views_of (More (entry c reply) h) in
    repeats g c reply
    (same_form g (views_of h) c.account c.key c.deed ∙ formed h c reply accepted)
    (subst (λ (o : Option (List ℕ)). kept_in (views_of (More (entry (asks c.account o c.deed) reply) h)) c.account o ≡ Some reply) (sym is) (own_kept h c.account key c.deed reply))

settled : (h : History) (c : Asked) (key : List ℕ) (o : Outcome) → c.key ≡ Some key → judge (views_of h) c ≡ o → EndsAlike h (added h c o) c
settled h c key (Refused e) is j = record { outcome = refl; history = refl }
settled h c key (Repeated reply) is j = record { outcome = refl; history = refl }
settled h c key (Accepts reply) is j =
    let r = again h c key reply is j in
    record { outcome = ap answer r ∙ ap answer (sym j); history = ap (added (More (entry c reply) h) c) r ∙ ap (added h c) (sym j) }

pub doubt_settled : (h : History) (c : Asked) (key : List ℕ) (stands : Bool) → c.key ≡ Some key → EndsAlike h (left_at_stop h c stands) c
doubt_settled h c key false is = record { outcome = refl; history = refl }
doubt_settled h c key true is = settled h c key (judge (views_of h) c) is refl

pub refused_stays : (h : History) (c : Asked) (refusal : Refusal) (o : Outcome) → answer o ≡ Err refusal → added h c o ≡ h
refused_stays h c refusal (Refused e) is = refl
refused_stays h c refusal (Repeated reply) is = refl
refused_stays h c refusal (Accepts reply) is = absurd cc
