use Rattle.std.proofs.Common.{sym, arith}
use Rattle.pid_moderation.proofs.RevisionLemmas.{same_after_all, taken_marked}
use Rattle.pid_service.proofs.Words.{accepted_count, after_all, Begins}
use Rattle.pid_service.proofs.laws.taken_histories_are_reached.Goals as goal

pub returns : goal.returns
returns c mark commands made few = let h = after_all (Begins mark) commands in
    record {
      mark = accepted_count h;
      commands = commands;
      made = made;
      reached = sym (same_after_all (accepted_count h) (Begins mark) commands (omega (arith, few)));
      marked = taken_marked h;
    }
