-- A part of the line was taken.
use Rattle.pid_journal.proofs.SegmentLines.{IsTaking}
use Rattle.pid_journal.proofs.segment_text.SegmentText.take_line.Given as goal

abbrev pub invariant-loop-turn : goal.invariant-loop-turn
invariant-loop-turn g l = IsTaking g.F.JournalFolder l.fn.folder l.folder l.fn.self l.self l.line.items
