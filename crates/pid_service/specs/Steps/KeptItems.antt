-- What is kept while items are written.
use Rattle.std.specs.Prelude.{◌≡◌}
use Rattle.pid_moderation.specs.Views.{Views}

-- no submission, no state of one and no rank is another one afterwards
pub record LeavesTheRest (before now : Views) : Type 0 where
  pub submits : now.submits ≡ before.submits
  pub states : now.state ≡ before.state
  pub ranks : now.rank ≡ before.rank
