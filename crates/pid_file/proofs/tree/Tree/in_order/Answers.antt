use Rattle.std.proofs.Common.{sym, ap, ◌∙◌, map}
use Rattle.std.specs.FinMap as finite
use Rattle.pid_file.specs.Items.{item_of}
use Rattle.pid_file.proofs.Maps.{entries-tree}
use Rattle.pid_file.proofs.tree.Tree.in_order.Goals as goal

pub returns-clause-items : goal.returns-clause-items
returns-clause-items c = ap (map item_of) c.iter.ensures.rest ∙ sym (entries-tree c.self.inside.items.entries c.iter.ensures.ordered) ∙ ap finite.entries c.self.view_is
