use Rattle.pid_tree.proofs.Changed.{IsTree-empty}
use Rattle.pid_tree.proofs.tree_items.TreeTreeItems.new.Goals as goal

pub invariant_of-result : goal.invariant_of-result
invariant_of-result c = rw c.new.ensures.empty IsTree-empty
