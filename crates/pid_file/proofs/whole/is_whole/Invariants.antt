use Rattle.pid_file.proofs.WholeLemmas.{HasLooked}
use Rattle.pid_file.proofs.whole.is_whole.Given as goal

abbrev pub invariant-loop-key : goal.invariant-loop-key
invariant-loop-key l = HasLooked l.items.entries l.key-iterator l.above
