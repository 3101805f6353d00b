use Rattle.std.proofs.Common.{refl, arith}
use Rattle.pid_tables.proofs.OfCheck.NumberFacts.{counts}
use Rattle.pid_tables.proofs.check.numbers.count_from_one.Goals as goal

pub returns : goal.returns
returns c rows are is = (λ yes. counts c.args.numbers.now rows are c.args.count is (λ k less. c.loop-at.invariant k (omega (arith, less, c.loop-at-test.false))), λ all. refl)
