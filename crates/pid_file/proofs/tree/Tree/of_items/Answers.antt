use Rattle.std.proofs.Common.{Ok, [], ◌∙◌, sym, subst, reverse}
use Rattle.std.specs.BTreeMap.{IsFromIterResult}
use Rattle.std.proofs.lemmas.Iterator.Adapters.{fact_from_collect, YieldsList-from_vec}
use Rattle.pid_file.specs.Steps.Paths.{path_cmp}
use Rattle.pid_file.specs.Trees.{IsTree}
use Rattle.pid_file.proofs.WholeLemmas.{sound_tree, same_trees, turned}
use Rattle.pid_file.proofs.tree.Tree.of_items.Goals as goal

pub invariant_of-result : goal.invariant_of-result
invariant_of-result c = sound_tree c.in-Ok.items.entries (c.is_whole.ensures.whole c.if-not-is_whole.false)

pub returns-clause-ok : goal.returns-clause-ok
returns-clause-ok c =
    let h = c.in-Ok.ensures.ran in
    let made = fact_from_collect {E = Unit {0}} {s = h.0} (λ xs v. IsFromIterResult path_cmp xs v) (Ok c.in-Ok.items) (h.1, h.3, h.4) (YieldsList-from_vec {s = h.0} _ h.2.0 (h.2.1 ∙ c.args.items.ok.0)) in
    same_trees c.in-Ok.items.entries _ (λ q. made.0 q ∙ turned c.args.items.items [] q)

pub returns-then-not-is_whole-clause-parent_missing : goal.returns-then-not-is_whole-clause-parent_missing
returns-then-not-is_whole-clause-parent_missing c _ tree =
    let h = c.in-Ok.ensures.ran in
    let made = fact_from_collect {E = Unit {0}} {s = h.0} (λ xs v. IsFromIterResult path_cmp xs v) (Ok c.in-Ok.items) (h.1, h.3, h.4) (YieldsList-from_vec {s = h.0} _ h.2.0 (h.2.1 ∙ c.args.items.ok.0)) in
    let same = same_trees c.in-Ok.items.entries (reverse c.args.items.items) (λ q. made.0 q ∙ turned c.args.items.items [] q) in
    c.is_whole.ensures.not_whole c.if-not-is_whole.true (subst IsTree (sym same) tree)
