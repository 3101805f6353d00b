use Rattle.std.proofs.Common.{◌≡◌, ℕ, List, [], ◌∷◌, ◌++◌, true, Option, Some, None, sym, ap, ◌∙◌}
use Rattle.std.specs.Prelude.{is_none}
use Rattle.std.specs.Option.{option_or}
use Rattle.pid_moderation.specs.declared.change.Effect.{Effect}
use Rattle.pid_moderation.specs.declared.change.Effect.TheVariants.{Decided}
use Rattle.pid_moderation.specs.declared.change.Write.{Write}
use Rattle.pid_moderation.specs.declared.command.Expected.{Expected}
use Rattle.pid_moderation.specs.declared.command.Reply.{Reply}
use Rattle.pid_moderation.specs.declared.command.Reply.TheVariants.{Done}
use Rattle.pid_moderation.specs.declared.facts.Facts.{Facts}
use Rattle.pid_moderation.specs.declared.facts.NamedSubmission.{NamedSubmission}
use Rattle.pid_moderation.specs.declared.facts.State.TheVariants.{Approved}
use Rattle.pid_moderation.specs.declared.refusal.Refusal.{Refusal}
use Rattle.pid_moderation.specs.declared.refusal.Refusal.TheVariants.{NoAccount, NoSubmission}
use Rattle.pid_moderation.specs.CheckTables.{Checks, approval_checks, decision_checks, item_checks, first_failing, later_checks}
use Rattle.pid_moderation.specs.Effects.{effect_of, write_of}
use Rattle.pid_moderation.specs.History.{Approves}
use Rattle.pid_moderation.proofs.FirstFailing.{joined}
use Rattle.pid_moderation.proofs.Passing.{all_pass}
use Rattle.pid_moderation.proofs.policy.approve.Goals as goal

-- the checks of a decision, before those of the item
abbrev earlier : List ℕ → Facts → NamedSubmission → Checks
earlier account f s = (is_none f.rank, NoAccount) ∷ decision_checks account f.rank s

-- the checks of an approval, and those where the submission is there
abbrev asked_checks : List ℕ → Facts → ℕ → Expected → Checks
asked_checks account f n e = (is_none f.rank, NoAccount) ∷ later_checks account f (Approves n e)

abbrev its_checks : List ℕ → Facts → Expected → NamedSubmission → Checks
its_checks account f e s = (is_none f.rank, NoAccount) ∷ approval_checks account f e s

is_absent : (account : List ℕ) (f : Facts) (n : ℕ) (e : Expected) (refusal : Refusal) → f.named ≡ None
    → first_failing ((is_none f.rank, NoAccount) ∷ (true, NoSubmission) ∷ []) ≡ Some refusal → first_failing (asked_checks account f n e) ≡ Some refusal
is_absent account f n e refusal none h = rw none h

is_refused : (account : List ℕ) (f : Facts) (n : ℕ) (e : Expected) (s : NamedSubmission) (refusal : Refusal) → f.named ≡ Some s
    → first_failing (its_checks account f e s) ≡ Some refusal → first_failing (asked_checks account f n e) ≡ Some refusal
is_refused account f n e s refusal is h = rw is h

passes : (account : List ℕ) (f : Facts) (n : ℕ) (e : Expected) (s : NamedSubmission) → f.named ≡ Some s
    → first_failing (its_checks account f e s) ≡ None → first_failing (asked_checks account f n e) ≡ None
passes account f n e s is h = rw is h

decides : (account decider : List ℕ) (f : Facts) (n : ℕ) (e : Expected) (s : NamedSubmission) (w : Write) → f.named ≡ Some s → decider ≡ account → w ≡ write_of f s
    → ◌≡◌ {A = Effect × Reply} (Decided n (Approved decider) (Some w), Done) (effect_of account f (Approves n e), Done)
decides account decider f n e s w is who what =
    rw is (ap (λ (d : List ℕ). (Decided n (Approved d) (Some w), Done)) who ∙ ap (λ (x : Write). (Decided n (Approved account) (Some x), Done)) what)

pub returns-in_default : goal.returns-in_default
returns-in_default c = λ _. is_absent c.args.account.now c.args.facts.now c.args.number c.args.expected.now c.absent.result c.in_default.is c.absent.ensures

-- what the two kinds of checks leave is what all of them leave
both : (account : List ℕ) (f : Facts) (e : Expected) (s : NamedSubmission) (first then all : Option Refusal) → first ≡ first_failing (earlier account f s) → then ≡ first_failing (item_checks f e s)
    → all ≡ option_or first then → first_failing (its_checks account f e s) ≡ all
both account f e s first then all is_first is_then is_all =
    joined (earlier account f s) (item_checks f e s) ∙ sym (is_all ∙ (λ i. option_or (is_first i) (is_then i)))

pub returns-in-Some-refused : goal.returns-in-Some-refused
returns-in-Some-refused c =
    let f = c.args.facts.now in
    let all = both c.args.account.now f c.args.expected.now c.in-Some.named _ _ _ c.decision_refusal.ensures c.write_refusal.ensures c.or-refused.ensures ∙ c.in-Some-refused.is in
    λ _. is_refused c.args.account.now f c.args.number c.args.expected.now c.in-Some.named _ c.in-Some.is all

pub write-requires : goal.write-requires
write-requires c =
    let f = c.args.facts.now in
    let all = both c.args.account.now f c.args.expected.now c.in-Some.named _ _ _ c.decision_refusal.ensures c.write_refusal.ensures c.or-refused.ensures ∙ c.in_default-refused.is in
    (all_pass (its_checks c.args.account.now f c.args.expected.now c.in-Some.named) all).1.1.1.1.1.1.1.1.0

pub returns : goal.returns
returns c =
    let f = c.args.facts.now in
    let all = both c.args.account.now f c.args.expected.now c.in-Some.named _ _ _ c.decision_refusal.ensures c.write_refusal.ensures c.or-refused.ensures ∙ c.in_default-refused.is in (
      passes c.args.account.now f c.args.number c.args.expected.now c.in-Some.named c.in-Some.is all,
      decides c.args.account.now c.in_ok-decider.decider f c.args.number c.args.expected.now c.in-Some.named c.in_ok-write.field-0 c.in-Some.is c.in_ok-decider.ensures c.in_ok-write.ensures,
    )
