use Rattle.std.proofs.Common.{Ok}
use Rattle.pid_service.specs.Steps.Asking.{Finds}
use Rattle.pid_service.proofs.registry.Registry.prepare.Given as goal

abbrev pub invariant-loop-part : goal.invariant-loop-part
invariant-loop-part g l = Finds g.C.Database l.fn.self l.self (Ok (tt {0})) (λ h _. Unit {0})
