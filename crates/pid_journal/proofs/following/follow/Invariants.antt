-- The registry shows the history after the lines so far.
use Rattle.pid_journal.specs.Steps.Reads.{OfText, OnlyReads, left_in}
use Rattle.pid_journal.proofs.LinesObeyed.{IsFollowing}
use Rattle.pid_journal.proofs.following.follow.Given as goal

abbrev pub invariant-loop-turn : goal.invariant-loop-turn
invariant-loop-turn g l = record {
  reads : OnlyReads g.F.JournalFolder l.fn.folder l.folder l.fn.text l.text;
  clean : g.R.RegistryCalls.showing.is_clean l.registry → g.R.RegistryCalls.showing.is_clean l.fn.registry;
  follows : OfText g.F.JournalFolder l.fn.folder l.fn.text (λ all. IsFollowing g.R.RegistryCalls.showing l.fn.registry l.registry (left_in l.fn.text all) (left_in l.text all));
}
