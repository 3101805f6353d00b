use Rattle.std.proofs.Common.{subst}
use Rattle.pid_service.specs.KeptViews.{AreChanged, HoldsChanges}
use Rattle.pid_service.proofs.RenewedChanges.{decided_changes}
use Rattle.pid_service.proofs.changes.changes_after.Goals as goal

pub returns-in-Some-write : goal.returns-in-Some-write
returns-in-Some-write c v views fits holds =
    let held : AreChanged c.in-Some.kept v = subst (λ o. HoldsChanges o v) c.in-Some.is holds in
    decided_changes c.args.effect.now _ _ _ c.in-Some-write.write c.in-Decided.is c.in-Some-write.is c.args.revision v _ fits (λ fit. c.renewed.ensures v views fit held)
