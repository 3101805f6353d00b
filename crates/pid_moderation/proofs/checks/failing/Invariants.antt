use Rattle.std.proofs.Common.{◌≡◌, drop}
use Rattle.pid_moderation.specs.CheckTables.{first_failing}
use Rattle.pid_moderation.proofs.checks.failing.Given as goal

abbrev pub invariant-loop-check : goal.invariant-loop-check
invariant-loop-check l = first_failing l.checks ≡ first_failing (drop l.check-index l.checks)
