use Rattle.std.proofs.Common.{◌≡◌, length, sym, ◌∙◌}
use Rattle.std.proofs.lemmas.Bool.{false≢true}
use Rattle.pid_tables.proofs.OfCheck.AccountFacts.{account_named, account_made, account_length, account_rank}
use Rattle.pid_tables.proofs.check.account.is_account_row.Goals as goal

pub returns-then-column_count-ne2 : goal.returns-then-column_count-ne2
returns-then-column_count-ne2 c = (λ no. absurd (false≢true no), λ row. absurd (c.if-column_count-ne2.true (c.column_count.ensures ∙ account_length c.args.row.now row)))

pub returns-in-None : goal.returns-in-None
returns-in-None c = (λ no. absurd (false≢true no), λ row. let it = account_named c.args.row.now row in absurd (c.in-None.ensures.none it.0 it.1 it.2))

pub returns-then-is_account : goal.returns-then-is_account
returns-then-is_account c =
    let r = c.args.row.now in
    let len : length r ≡ 2 = sym c.column_count.ensures ∙ c.if-column_count-ne2.false in
    (λ yes. account_made r c.in-Some.name.now len c.in-Some.ensures.found (sym c.if-is_account.ensures) (c.is_within.ensures.0 yes), λ row. c.is_within.ensures.1 (account_rank r row))
