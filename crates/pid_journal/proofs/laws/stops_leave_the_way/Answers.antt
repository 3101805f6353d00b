use Rattle.pid_journal.proofs.Sessions.{stops}
use Rattle.pid_journal.proofs.laws.stops_leave_the_way.Goals as goal

pub returns : goal.returns
returns c = stops
