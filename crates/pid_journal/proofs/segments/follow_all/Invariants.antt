-- The registry is at one of the segments.
use Rattle.std.proofs.Common.{length}
use Rattle.pid_journal.proofs.InTurn.{IsInTurn}
use Rattle.pid_journal.proofs.segments.follow_all.Given as goal

abbrev pub invariant-loop-next : goal.invariant-loop-next
invariant-loop-next g l = IsInTurn g.R.RegistryCalls.showing g.F.JournalFolder l.fn.registry l.registry l.fn.folder l.folder l.fn.begins l.begin l.rest l.moved

abbrev pub decreases-loop-next : goal.decreases-loop-next
decreases-loop-next g l = length l.rest
