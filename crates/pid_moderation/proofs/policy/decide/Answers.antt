use Rattle.pid_moderation.proofs.Deciding.{answered, turned_down, leading}
use Rattle.pid_moderation.proofs.Fitting.{fitting}
use Rattle.pid_moderation.proofs.NeverFailed.{decides_live}
use Rattle.pid_moderation.specs.History.{TooLong, asked}
use Rattle.pid_moderation.proofs.policy.decide.Goals as goal

pub returns-clause-answers : goal.returns-clause-answers
returns-clause-answers c = λ v reading e. record {
  reply = answered _ _ _ (c.by_facts.ensures reading) v e;
  refusal = turned_down _ _ _ (c.by_facts.ensures reading) v e;
}

pub returns-clause-change : goal.returns-clause-change
returns-clause-change c = λ h reading marked e. leading _ _ _ (c.by_facts.ensures reading) h marked e

pub returns-clause-fits : goal.returns-clause-fits
returns-clause-fits c = λ h reading e. fitting _ _ _ (c.by_facts.ensures reading) h e

pub returns-clause-decides : goal.returns-clause-decides
returns-clause-decides c = c.by_facts.ensures

pub returns-clause-alive : goal.returns-clause-alive
returns-clause-alive c = decides_live c.args.facts.now (asked c.args.command.now TooLong) c.by_facts.result (c.by_facts.ensures TooLong)
