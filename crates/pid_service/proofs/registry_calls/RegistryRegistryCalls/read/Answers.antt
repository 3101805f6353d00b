use Rattle.std.proofs.Common.{refl}
use Rattle.pid_service.proofs.QueriesMet.{promised}
use Rattle.pid_service.proofs.Questions.{answers_read, failed_here}
use Rattle.pid_service.proofs.Reached.{reached_readable}
use Rattle.pid_service.proofs.registry_calls.RegistryRegistryCalls.read.Goals as goal

pub returns-then-not-self : goal.returns-then-not-self
returns-then-not-self g c =
    promised g.C.Database c.args.self.now _ _ _
    (failed_here g.C.Database c.args.self.now _ c.if-not-self.true c.args.self.now.tables.settled)

pub returns : goal.returns
returns g c =
    promised g.C.Database c.args.self.now _ _ _
    (answers_read g.C.Database c.args.self.now _ c.item.result c.fault_as_refusal.result _ _ c.if-not-self.false refl refl c.item.ensures c.fault_as_refusal.ensures reached_readable (λ h name shows clean told. told))
