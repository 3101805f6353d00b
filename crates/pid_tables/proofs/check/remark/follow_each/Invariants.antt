use Rattle.std.proofs.Common.{ℕ}
use Rattle.pid_tables.specs.Check.Steps.PlaceSets.{pair_cmp, FollowsPlace}
use Rattle.pid_tables.proofs.OfCheck.KeyWalk.{HasWalked}
use Rattle.pid_tables.proofs.check.remark.follow_each.Given as goal

abbrev pub invariant-loop-place : goal.invariant-loop-place
invariant-loop-place l = HasWalked pair_cmp (λ (at : ℕ × ℕ). FollowsPlace l.places at.0 at.1) l.places l.place-iterator
