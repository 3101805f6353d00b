use Rattle.pid_tree.proofs.Changed.{empty-tree}
use Rattle.pid_tree.proofs.tree_items.TreeTreeItems.is_empty.Goals as goal

pub returns : goal.returns
returns c =
    let empty = empty-tree c.self.inside.items.entries _ c.self.view_is in
    (λ is. empty.0 (c.is_empty.ensures.0 is), λ is. c.is_empty.ensures.1 (empty.1 is))
