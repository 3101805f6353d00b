use Rattle.std.specs.BTreeMap.Range.{entries_between}
use Rattle.std.specs.declared.ops.Bound.TheVariants.{Included}
use Rattle.pid_file.specs.Steps.Paths.{path_cmp}
use Rattle.std.proofs.Common.{sym, ◌∙◌}
use Rattle.pid_tree.proofs.Between.{all_remain, fewer_remain, none_remain}
use mathlib.Core.Bool.{true≢false}
use Rattle.pid_tree.proofs.children.has_child_between.Goals as goal

pub loop-key-init : goal.loop-key-init
loop-key-init c = all_remain c.tree.inside.items.entries _ _ _ _ _ c.tree.view_is (c.into_iter-key-iterator.ensures.into_iter_gives ∙ c.range-key-items.ensures.between c.new.ensures.exhausted ∙ (λ i. entries_between path_cmp (Included (c.new.ensures.start i)) (Included (c.new.ensures.end i)) c.tree.inside.items.entries))

pub loop-key-preserved : goal.loop-key-preserved
loop-key-preserved c = fewer_remain _ _ _ _ _ _ (c.in-Some.key.now, c.in-Some.field-0-1.now) c.loop-key.invariant c.in-Some.ensures.steps c.is_child.ensures.in_range (λ is. true≢false (sym (c.is_child.ensures.answer.1 is) ∙ c.if-is_child.false))

pub returns : goal.returns
returns c = record {
  found = λ yes. absurd cc;
  none = λ _. none_remain c.args.tree.now c.args.path c.args.least c.args.greatest _ c.loop-key.invariant c.in-None.ensures.steps.0;
}
