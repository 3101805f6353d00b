use Rattle.std.proofs.Common.{◌≡◌, false, rules, subst}
use Rattle.std.proofs.lemmas.Fn.{filter_same}
use Rattle.pid_service.proofs.Words.{HoldsPending, is_pending, numbers_pending}
use Rattle.pid_service.proofs.PendingNumbers.{decided_holds, submitted_holds}
use Rattle.pid_service.proofs.kept_views.follow_pending.Goals as goal

pub returns-else-not-add_number : goal.returns-else-not-add_number
returns-else-not-add_number c n v views fits holds =
    let held : c.in-Some.numbers.items ≡ numbers_pending v = subst (λ o. HoldsPending o v) c.in-Some.is holds in
    submitted_holds c.args.effect.now _ _ _ _ _ c.in-Submitted.is n v c.in-Some.numbers.items c.add_number.new.numbers.items views fits held (c.add_number.ensures c.if-not-add_number.false)

pub returns-in-Approved : goal.returns-in-Approved
returns-in-Approved c n v views fits holds =
    let held : c.in-Some.numbers.items ≡ numbers_pending v = subst (λ o. HoldsPending o v) c.in-Some.is holds in
    let off : is_pending c.in-Decided.state ≡ false = search rules in
    decided_holds c.args.effect.now _ _ _ c.in-Decided.is n v c.in-Some.numbers.items _ held off (filter_same _ _ _ (λ x b f' k. search rules) _ _ c.retain.ensures.filtered)
