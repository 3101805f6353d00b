use Rattle.std.proofs.Common.{◌≡◌, filter, take}
use Rattle.std.specs.Prelude.{nat_lt}
use Rattle.pid_service.proofs.pending_numbers.numbers_above.Given as goal

abbrev pub invariant-loop-number : goal.invariant-loop-number
invariant-loop-number l = l.page.items ≡ take 100 (filter (nat_lt l.after) (take l.number-index l.numbers))
