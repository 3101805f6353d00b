use Rattle.std.proofs.Common.{refl, ◌∙◌}
use Rattle.std.proofs.lemmas.Bool.{false≢true}
use Rattle.pid_tables.proofs.OfCheck.KeyWalk.{walk_begun, walk_here, walk_on, walk_ended}
use Rattle.pid_tables.proofs.OfCheck.RemarkFacts.{place_itself, follow_kept}
use Rattle.pid_tables.proofs.check.remark.follow_each.Goals as goal

pub loop-place-init : goal.loop-place-init
loop-place-init c = walk_begun _ _ _ _ (c.into_iter-place-iterator.ensures.into_iter_gives ∙ c.iter-place-items.ensures.rest)

pub loop-place-preserved : goal.loop-place-preserved
loop-place-preserved c = walk_on _ _ _ _ _ c.in-Some.place.now c.loop-place.invariant c.in-Some.ensures.steps (follow_kept c.args.places.now c.in-Some.place.now (c.if-not-follows.ensures.0 refl))

pub returns-then-not-follows : goal.returns-then-not-follows
returns-then-not-follows c = (λ no. absurd (false≢true no), λ all. c.if-not-follows.ensures.1 (all c.in-Some.place.now (walk_here _ _ _ _ _ _ c.loop-place.invariant c.in-Some.ensures.steps (place_itself c.in-Some.place.now))))

pub returns : goal.returns
returns c = (λ yes. walk_ended _ _ _ _ c.loop-place.invariant c.in-None.ensures.steps.0, λ all. refl)
