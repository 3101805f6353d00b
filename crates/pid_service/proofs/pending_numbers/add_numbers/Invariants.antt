use Rattle.std.proofs.Common.{◌≡◌, ◌++◌, map, take}
use Rattle.pid_service.specs.Steps.PendingNumbers.{its_number}
use Rattle.pid_service.proofs.pending_numbers.add_numbers.Given as goal

abbrev pub invariant-loop-pending : goal.invariant-loop-pending
invariant-loop-pending l = l.numbers.items ≡ l.initial.numbers.items ++ map its_number (take l.pending-index l.page)
