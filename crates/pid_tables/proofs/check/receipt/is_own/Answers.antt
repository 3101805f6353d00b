use Rattle.std.proofs.Common.{◌≡◌, rules}
use Rattle.sqlite.specs.Order.{column}
use Rattle.pid_tables.specs.Rows.TableRows.{number}
use Rattle.pid_tables.proofs.OfCheck.ReceiptFacts.{numbered, numbered_back, counted, counted_back}
use Rattle.pid_tables.proofs.check.receipt.is_own.Goals as goal

pub returns-in-Some-eq1 : goal.returns-in-Some-eq1
returns-in-Some-eq1 c rows are =
    let r = c.args.row.now in
    let account = c.args.account.now in
    let e : column r 2 ≡ number 1 = search rules in
    let it = c.is_numbered.ensures rows are in
    (λ yes. numbered rows r account e (it.0 yes), λ reply. it.1 (numbered_back rows r account e reply))

pub returns-in-Some-eq2 : goal.returns-in-Some-eq2
returns-in-Some-eq2 c rows are =
    let r = c.args.row.now in
    let account = c.args.account.now in
    let e : column r 2 ≡ number 2 = search rules in
    (λ yes. counted rows r account e (c.has_counts.ensures.0 yes), λ reply. c.has_counts.ensures.1 (counted_back rows r account e reply))
