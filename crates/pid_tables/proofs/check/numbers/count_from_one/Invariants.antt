use Rattle.pid_tables.proofs.OfCheck.NumberFacts.{AreThere}
use Rattle.pid_tables.proofs.check.numbers.count_from_one.Given as goal

abbrev pub invariant-loop-at : goal.invariant-loop-at
invariant-loop-at l = AreThere l.numbers l.at
