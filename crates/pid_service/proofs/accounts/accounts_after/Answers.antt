use Rattle.std.proofs.Common.{◌≡◌, ◌+◌, refl, rules, subst}
use Rattle.std.specs.Prelude.{IfSome}
use Rattle.pid_service.proofs.Words.{affected, HasAccounts, HoldsAccounts}
use Rattle.pid_service.proofs.AccountCounts.{new_account, one_counted}
use Rattle.pid_service.proofs.accounts.accounts_after.Goals as goal

pub returns-then-is_new : goal.returns-then-is_new
returns-then-is_new c n v fits holds =
    let has : HasAccounts v c.in_ok-count.count = subst (λ o. HoldsAccounts o v) c.in_ok-count.was holds in
    let more : IfSome c.checked_add.result (λ k. k ≡ c.in_ok-count.count + 1) = search rules in
    one_counted c.checked_add.result c.in_ok-count.count (affected n c.args.effect.now v) more (new_account c.args.effect.now _ _ _ c.in-Ranked.is c.if-is_new.true n v c.in_ok-count.count (c.in_ok-count.count + 1) fits refl has)
