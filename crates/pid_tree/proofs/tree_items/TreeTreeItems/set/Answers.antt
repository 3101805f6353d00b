use mathlib.Core.Bool.{true≢false}
use Rattle.std.proofs.Common.{sym, ap, subst, ◌∙◌}
use Rattle.std.specs.FinMap as finite
use Rattle.pid_file.specs.PathTexts.{path_text}
use Rattle.pid_file.specs.Trees.{IsTree}
use Rattle.pid_file.specs.Items.{tree_of}
use Rattle.pid_file.proofs.Maps.{tree-insert}
use Rattle.pid_tree.proofs.Changed.{IsTree-insert}
use Rattle.pid_tree.proofs.tree_items.TreeTreeItems.set.Goals as goal

pub invariant_of-self : goal.invariant_of-self
invariant_of-self c =
    let before = subst IsTree c.self.view_is c.self.invariant in
    let after = ap tree_of c.in-Ok.ensures.entries ∙ tree-insert c.self.inside.items.entries c.args.path c.args.name ∙ ap (λ m. finite.insert m (path_text c.args.path) c.args.name) c.self.view_is in
    subst IsTree (sym after) (IsTree-insert c.args.self.now c.args.path c.args.name before c.lacks_parent.ensures.in_range (λ lacks. true≢false (sym (c.lacks_parent.ensures.answer.1 lacks) ∙ c.if-lacks_parent.false)) c.as_str-checked.ensures.checked)

pub returns-in-Ok-clause-ok : goal.returns-in-Ok-clause-ok
returns-in-Ok-clause-ok c = ap tree_of c.in-Ok.ensures.entries ∙ tree-insert c.self.inside.items.entries c.args.path c.args.name ∙ ap (λ m. finite.insert m (path_text c.args.path) c.args.name) c.self.view_is
