-- The lines so far are before the place where the registry stands.
use Rattle.pid_journal.specs.Steps.Reads.{OfText, OnlyReads, left_in}
use Rattle.pid_journal.proofs.Comparing.{IsComparing}
use Rattle.pid_journal.proofs.Places.{IsFinding}
use Rattle.pid_journal.proofs.placing.find_place.Given as goal

abbrev pub invariant-loop-turn : goal.invariant-loop-turn
invariant-loop-turn g l = record {
  reads : OnlyReads g.F.JournalFolder l.fn.folder l.folder l.fn.text l.text;
  finds : OfText g.F.JournalFolder l.fn.folder l.fn.text (λ all. IsFinding (left_in l.fn.text all) (left_in l.text all) l.fn.now l.fn.begin l.place × IsComparing (left_in l.fn.text all) (left_in l.text all) l.fn.now l.fn.begin l.place);
}
