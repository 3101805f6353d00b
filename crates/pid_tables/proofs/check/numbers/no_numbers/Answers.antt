use Rattle.std.proofs.Common.{refl}
use Rattle.pid_tables.proofs.OfCheck.NumberFacts.{none_yet}
use Rattle.pid_tables.proofs.check.numbers.no_numbers.Goals as goal

pub returns : goal.returns
returns c = none_yet _ refl c.new.ensures.empty
