use Rattle.std.proofs.Common.{ap, ◌∙◌}
use Rattle.std.specs.FinMap as finite
use Rattle.pid_tree.proofs.Changed.{len-tree}
use Rattle.pid_tree.proofs.tree_items.TreeTreeItems.len.Goals as goal

pub returns : goal.returns
returns c = c.len.ensures.len ∙ len-tree c.self.inside.items.entries c.len.ensures.ordered ∙ ap finite.len c.self.view_is
