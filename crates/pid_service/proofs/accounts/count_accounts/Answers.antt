use Rattle.std.proofs.Common.{rules, subst}
use Rattle.pid_service.specs.KeptViews.{HoldsAccounts}
use Rattle.pid_service.proofs.Questions.{reads_as}
use Rattle.pid_service.proofs.accounts.count_accounts.Goals as goal

pub returns-in-Some : goal.returns-in-Some
returns-in-Some g c = record { rests = search rules; told = λ clean v rest holds. subst (λ o. HoldsAccounts o v) c.in-Some.is holds }

pub returns-in-None : goal.returns-in-None
returns-in-None g c = reads_as g.C.Database c.args.tables.now.conn c.accounts.new.self.conn c.accounts.result _ _ (λ v n told holds. told) c.accounts.ensures
