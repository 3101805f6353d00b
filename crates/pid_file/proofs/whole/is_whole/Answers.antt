use Rattle.std.proofs.Common.{refl, ◌∙◌}
use Rattle.pid_file.proofs.WholeLemmas.{looks, next_there, looks_on, looked, not_a_tree}
use Rattle.pid_file.proofs.whole.is_whole.Goals as goal

pub with-requires-clause-kept : goal.with-requires-clause-kept
with-requires-clause-kept c = c.loop-key.invariant.kept

pub with-requires-clause-there : goal.with-requires-clause-there
with-requires-clause-there c = next_there _ _ _ _ (c.in-Some.key.now, c.in-Some.name.now) c.loop-key.invariant c.in-Some.ensures.steps

pub loop-key-init : goal.loop-key-init
loop-key-init c = looks _ _ _ (c.into_iter-key-iterator.ensures.into_iter_gives ∙ c.iter-key-items.ensures.rest) refl refl

pub loop-key-preserved : goal.loop-key-preserved
loop-key-preserved c =
    looks_on _ _ _ _ _ (c.in-Some.key.now, c.in-Some.name.now) c.loop-key.invariant c.in-Some.ensures.steps
    (record { in_range = c.with.ensures.in_range; named = c.as_str-checked.ensures.checked; parent = c.in-Some-with.ensures.parent })
    c.in-Some-with.ensures.kept

pub returns-clause-whole : goal.returns-clause-whole
returns-clause-whole c _ = looked _ _ _ c.loop-key.invariant c.in-None.ensures.steps.0

pub returns-in_default-clause-not_whole : goal.returns-in_default-clause-not_whole
returns-in_default-clause-not_whole c _ tree = not_a_tree _ _ _ _ (c.in-Some.key.now, c.in-Some.name.now) c.loop-key.invariant c.in-Some.ensures.steps c.with.ensures.in_range c.in_default.ensures.lacking tree
