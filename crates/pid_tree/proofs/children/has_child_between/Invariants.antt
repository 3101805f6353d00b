use Rattle.pid_tree.proofs.Between.{Remain}
use Rattle.pid_tree.proofs.children.has_child_between.Given as goal

abbrev pub invariant-loop-key : goal.invariant-loop-key
invariant-loop-key l = Remain l.tree l.path l.fn.least l.fn.greatest l.key-iterator
