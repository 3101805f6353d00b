use Rattle.std.proofs.Common.{◌≡◌, ℕ, ◌+◌, Option, ◌∙◌, ap, Err}
use Rattle.std.proofs.lemmas.Result.{err_from_is_err_and}
use Rattle.pid_moderation.specs.declared.change.Change.{Change}
use Rattle.pid_moderation.specs.declared.change.Effect.{Effect}
use Rattle.pid_moderation.specs.declared.change.Receipt.{Receipt}
use Rattle.pid_moderation.specs.declared.command.Reply.{Reply}
use Rattle.pid_moderation.specs.CheckTables.{checks, command_checks, revision_checks, reply_by_facts}
use Rattle.pid_moderation.specs.Effects.{effect_of, receipt_of}
use Rattle.pid_moderation.specs.History.{asked}
use Rattle.pid_moderation.proofs.FormLemmas.{fails_first, fails_later, follows_so}
use Rattle.pid_moderation.proofs.policy.accept.Goals as goal

abbrev makes : Effect × Reply → ℕ × Option Receipt → Change × Reply
makes done counted = (record { effect = done.0; receipt = counted.1; revision = counted.0 }, done.1)

made : (done : Effect × Reply) (counted : ℕ × Option Receipt) (effect : Effect) (reply : Reply) (revision : ℕ) (receipts : Reply → Option Receipt)
    → done ≡ (effect, reply) → counted ≡ (revision, receipts done.1) → makes done counted ≡ makes (effect, reply) (revision, receipts reply)
made done counted effect reply revision receipts is_done is_counted =
    ap (makes done) is_counted ∙ ap (λ (d : Effect × Reply). makes d (revision, receipts d.1)) is_done

pub returns-in_err-effect : goal.returns-in_err-effect
returns-in_err-effect c =
    let p = err_from_is_err_and c.from_residual.result c.from_residual.ensures.1 in
    let facts = c.args.facts.now in
    λ reading. follows_so (checks facts (asked c.args.command.now reading)) _ _ _ (p.1 ∙ ap Err p.2) (λ m. fails_first (command_checks facts (asked c.args.command.now reading)) (revision_checks facts) _ (c.in_err-effect.ensures reading m))

pub returns-in-Err : goal.returns-in-Err
returns-in-Err c =
    let facts = c.args.facts.now in
    λ reading m. fails_later (command_checks facts (asked c.args.command.now reading)) (revision_checks facts) (c.in_ok-effect.ensures reading).0 ∙ c.in-Err.ensures m

pub returns-in-Ok : goal.returns-in-Ok
returns-in-Ok c =
    let facts = c.args.facts.now in
    λ reading. let command = asked c.args.command.now reading in (
      fails_later (command_checks facts command) (revision_checks facts) (c.in_ok-effect.ensures reading).0 ∙ c.in-Ok.ensures.0,
      made (c.in_ok-effect.effect, c.in_ok-effect.reply) (c.in-Ok.revision, c.in-Ok.receipt) (effect_of command.account facts command.deed) (reply_by_facts facts command.deed) (facts.revision + 1) (receipt_of command.account command.key) (c.in_ok-effect.ensures reading).1 c.in-Ok.ensures.1,
    )
