use Rattle.std.specs.Prelude.{is_some}
use mathlib.Core.Bool.{true≢false}
use Rattle.std.proofs.Common.{sym, ap, subst, ◌∙◌}
use Rattle.std.specs.FinMap as finite
use Rattle.pid_file.specs.PathTexts.{path_text}
use Rattle.pid_file.specs.Trees.{IsTree}
use Rattle.pid_file.specs.Items.{tree_of}
use Rattle.pid_tree.proofs.Removed.{copied_none, parent_there, tree-remove, IsTree-remove}
use Rattle.pid_tree.proofs.tree_items.TreeTreeItems.remove.Goals as goal

pub invariant_of-self : goal.invariant_of-self
invariant_of-self c =
    let after = ap tree_of c.remove-name.ensures.entries ∙ tree-remove c.self.inside.items.entries c.args.path.now c.keys-ordered.ensures.ordered ∙ ap (λ m. finite.remove m (path_text c.args.path.now)) c.self.view_is in
    subst IsTree (sym after) (IsTree-remove c.args.self.now c.args.path.now (subst IsTree c.self.view_is c.self.invariant) c.has_child.ensures.in_range (λ has. true≢false (sym (c.has_child.ensures.answer.1 has) ∙ c.if-has_child.false)))

pub returns-clause-ok : goal.returns-clause-ok
returns-clause-ok c = ap tree_of c.remove-name.ensures.entries ∙ tree-remove c.self.inside.items.entries c.args.path.now c.keys-ordered.ensures.ordered ∙ ap (λ m. finite.remove m (path_text c.args.path.now)) c.self.view_is

pub returns-then-is_none-clause-has_children : goal.returns-then-is_none-clause-has_children
returns-then-is_none-clause-has_children c = (
  λ is. absurd cc,
  λ has. absurd (true≢false (sym (parent_there c.args.self.now has.child c.args.path.now (subst IsTree c.self.view_is c.self.invariant) has.in_range has.is_child has.there) ∙ ap is_some (sym c.get.ensures) ∙ copied_none _ c.if-is_none.ensures)),
)
