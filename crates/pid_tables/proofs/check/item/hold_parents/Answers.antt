use Rattle.std.proofs.Common.{refl, ◌∙◌}
use Rattle.std.proofs.lemmas.Bool.{false≢true}
use Rattle.pid_tables.proofs.OfCheck.KeyWalk.{walk_begun, walk_here, walk_on, walk_ended}
use Rattle.pid_tables.proofs.OfCheck.ItemFacts.{path_itself, parent_kept}
use Rattle.pid_tables.proofs.check.item.hold_parents.Goals as goal

pub loop-path-init : goal.loop-path-init
loop-path-init c = walk_begun _ _ _ _ (c.into_iter-path-iterator.ensures.into_iter_gives ∙ c.iter-path-items.ensures.rest)

pub loop-path-preserved : goal.loop-path-preserved
loop-path-preserved c = walk_on _ _ _ _ _ c.in-Some.path.now c.loop-path.invariant c.in-Some.ensures.steps (parent_kept c.args.paths.now c.in-Some.path.now c.if-not-has_parent.ensures.in_range (c.if-not-has_parent.ensures.parent.0 refl))

pub returns-then-not-has_parent : goal.returns-then-not-has_parent
returns-then-not-has_parent c = (
  λ no. absurd (false≢true no),
  λ all. c.if-not-has_parent.ensures.parent.1 (all c.in-Some.path.now (walk_here _ _ _ _ _ _ c.loop-path.invariant c.in-Some.ensures.steps (path_itself c.in-Some.path.now)) c.if-not-has_parent.ensures.in_range),
)

pub returns : goal.returns
returns c = (λ yes. walk_ended _ _ _ _ c.loop-path.invariant c.in-None.ensures.steps.0, λ all. refl)
