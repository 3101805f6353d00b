use Rattle.std.proofs.Common.{sym, ap, ◌∙◌}
use Rattle.std.specs.FinMap as finite
use Rattle.pid_file.specs.PathTexts.{path_text}
use Rattle.pid_file.proofs.Maps.{get-tree}
use Rattle.pid_tree.proofs.tree_items.TreeTreeItems.get.Goals as goal

pub returns : goal.returns
returns c = c.get.ensures.value ∙ sym (get-tree c.self.inside.items.entries c.args.path.now) ∙ ap (λ m. finite.get m (path_text c.args.path.now)) c.self.view_is
