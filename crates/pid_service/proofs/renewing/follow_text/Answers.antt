use Rattle.std.proofs.Common.{Some, subst}
use Rattle.pid_service.proofs.Words.{HoldsText, IsKeptText}
use Rattle.pid_service.proofs.Renewed.{decided_text}
use Rattle.pid_service.proofs.renewing.follow_text.Goals as goal

pub returns-then-not-renew : goal.returns-then-not-renew
returns-then-not-renew c n v views holds = tt

pub returns-else-not-renew : goal.returns-else-not-renew
returns-else-not-renew c n v views holds =
    let held : IsKeptText c.in-Some.text v.items = subst (λ o. HoldsText o v.items) c.in-Some.is holds in
    decided_text (Some c.renew.new.text) c.args.effect.now _ _ _ c.in-Some-write.write c.in-Decided.is c.in-Some-write.is n v (c.renew.ensures c.if-not-renew.false v.items views.sorted held)

pub returns-in-Imported : goal.returns-in-Imported
returns-in-Imported c n v views holds = tt
