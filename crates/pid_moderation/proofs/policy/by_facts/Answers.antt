use Rattle.std.proofs.Common.{sym, ◌∙◌}
use Rattle.pid_moderation.specs.History.{asked}
use Rattle.pid_moderation.proofs.Deciding.{decided}
use Rattle.pid_moderation.proofs.policy.by_facts.Goals as goal

pub returns : goal.returns
returns c = λ reading. decided c.args.facts.now (asked c.args.command.now reading) c.accept.result (sym (c.is_ill_formed.ensures reading) ∙ c.if-is_ill_formed.false) c.in_default.is (c.accept.ensures reading)
