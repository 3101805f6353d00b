-- What the judgement of a command tells of the reply that is kept, and which refusals it gives.
use Rattle.std.proofs.Common.{◌≡◌, ℕ, Bool, true, false, cond, List, Option, Some, None, Result, Ok, Err, refl, sym, ap, ◌∙◌}
use Rattle.pid_moderation.specs.declared.command.Reply.{Reply}
use Rattle.pid_moderation.specs.declared.facts.Facts.{Facts}
use Rattle.pid_moderation.specs.declared.facts.NamedSubmission.{NamedSubmission}
use Rattle.pid_moderation.specs.declared.refusal.Refusal.{Refusal}
use Rattle.pid_moderation.specs.declared.refusal.Refusal.TheVariants.{BadText}
use Rattle.pid_moderation.specs.CheckTables.{checks, first_failing, is_ill_formed, reply_by_facts}
use Rattle.pid_moderation.specs.FactsOfViews.{facts_of, kept_in, known, looked_at, named, wanted, with_file, with_item_facts, Wanted, ItemOf}
use Rattle.pid_moderation.specs.History.{TooLong, Faulty, Good, Deed, Imports, Asked, Accepted, History}
use Rattle.pid_moderation.specs.Items.{Items}
use Rattle.pid_moderation.specs.Judgement.{Outcome, Refused, Repeated, Accepts, unless, unless_kept, judge, answer}
use Rattle.pid_moderation.specs.Views.{Views, views_of}
use Rattle.pid_moderation.proofs.NeverFailed.{is_judged, judged_answer}
use Rattle.pid_moderation.proofs.ReceiptsStay.{facts-kept}
use Rattle.pid_service_laws.specs.Outcomes.{is_outcome}

abbrev pub asks : List ℕ → Option (List ℕ) → Deed → Asked
asks account key deed = record { account = account; key = key; deed = deed }

abbrev pub entry : Asked → Reply → Accepted
entry c reply = record { asked = c; reply = reply }

-- THE KEPT REPLY

-- a judgement, of what it looks at
abbrev shown : Bool → Option Reply → Option Refusal → Reply → Outcome
shown ill kept failing reply = cond ill (Refused BadText) (unless_kept kept (unless failing reply))

not_accepted : (o : Option Refusal) (r reply : Reply) → unless o r ≡ Repeated reply → ⊥
not_accepted None r reply h = absurd cc
not_accepted (Some e) r reply h = absurd cc

shown-accepts : (ill : Bool) (kept : Option Reply) (failing : Option Refusal) (r reply : Reply) → shown ill kept failing r ≡ Accepts reply → (ill ≡ false) × (kept ≡ None)
shown-accepts true kept failing r reply h = absurd cc
shown-accepts false None failing r reply h = (refl, refl)
shown-accepts false (Some k) failing r reply h = absurd cc

shown-repeats : (ill : Bool) (kept : Option Reply) (failing : Option Refusal) (r reply : Reply) → shown ill kept failing r ≡ Repeated reply → kept ≡ Some reply
shown-repeats true kept failing r reply h = absurd cc
shown-repeats false None failing r reply h = absurd (not_accepted failing r reply h)
shown-repeats false (Some k) failing r reply h = let e : k ≡ reply = cc in ap Some e

shown-kept : (ill : Bool) (kept : Option Reply) (failing : Option Refusal) (r reply : Reply) → ill ≡ false → kept ≡ Some reply → shown ill kept failing r ≡ Repeated reply
shown-kept ill kept failing r reply i k = rw (i, k) refl

-- what is accepted is well formed
pub formed : (h : History) (c : Asked) (reply : Reply) → judge (views_of h) c ≡ Accepts reply → is_ill_formed (facts_of (views_of h) c) c.deed ≡ false
formed h c reply is = let f = facts_of (views_of h) c in (shown-accepts (is_ill_formed f c.deed) f.kept (first_failing (checks f c)) (reply_by_facts f c.deed) reply is).0

-- and had no reply kept
pub new_key : (h : History) (c : Asked) (reply : Reply) → judge (views_of h) c ≡ Accepts reply → kept_in (views_of h) c.account c.key ≡ None
new_key h c reply is =
    let f = facts_of (views_of h) c in
    sym (facts-kept (views_of h) c) ∙ (shown-accepts (is_ill_formed f c.deed) f.kept (first_failing (checks f c)) (reply_by_facts f c.deed) reply is).1

-- what is repeated was kept
pub old_key : (h : History) (c : Asked) (reply : Reply) → judge (views_of h) c ≡ Repeated reply → kept_in (views_of h) c.account c.key ≡ Some reply
old_key h c reply is =
    let f = facts_of (views_of h) c in
    sym (facts-kept (views_of h) c) ∙ shown-repeats (is_ill_formed f c.deed) f.kept (first_failing (checks f c)) (reply_by_facts f c.deed) reply is

-- what is well formed and was kept is repeated
pub repeats : (v : Views) (c : Asked) (reply : Reply) → is_ill_formed (facts_of v c) c.deed ≡ false → kept_in v c.account c.key ≡ Some reply → judge v c ≡ Repeated reply
repeats v c reply well kept =
    let f = facts_of v c in
    shown-kept (is_ill_formed f c.deed) f.kept (first_failing (checks f c)) (reply_by_facts f c.deed) reply well (facts-kept v c ∙ kept)

-- the form is that of the command alone
pub same_form : (v w : Views) (account : List ℕ) (key : Option (List ℕ)) (deed : Deed) → is_ill_formed (facts_of v (asks account key deed)) deed ≡ is_ill_formed (facts_of w (asks account key deed)) deed
same_form v w account key (Imports TooLong) = refl
same_form v w account key (Imports (Faulty fault)) = refl
same_form v w account key (Imports (Good pairs)) = refl
same_form v w account key deed = refl

-- WHICH REFUSALS

is_same : (r : Result Reply Refusal) → is_judged r ≡ true → is_outcome r ≡ true
is_same (Ok reply) is = refl
is_same (Err e) is = is

pub outcome_of : (v : Views) (c : Asked) → is_outcome (answer (judge v c)) ≡ true
outcome_of v c = is_same (answer (judge v c)) (judged_answer (facts_of v c) c)
