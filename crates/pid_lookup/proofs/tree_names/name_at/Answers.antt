use Rattle.std.proofs.Common.{sym, ap, ◌∙◌}
use Rattle.std.specs.FinMap as finite
use Rattle.pid_file.specs.PathTexts.{path_text}
use Rattle.pid_file.proofs.Maps.{get-tree}
use Rattle.pid_lookup.proofs.tree_names.name_at.Goals as goal

pub returns : goal.returns
returns c = c.get.ensures.value ∙ sym (get-tree c.tree.inside.items.entries c.args.path.now) ∙ ap (λ m. finite.get m (path_text c.args.path.now)) c.tree.view_is
