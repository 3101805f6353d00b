use Rattle.pid_journal.proofs.Answered.{answered}
use Rattle.pid_journal.proofs.laws.entries_are_answered.Goals as goal

pub returns : goal.returns
returns c = answered
