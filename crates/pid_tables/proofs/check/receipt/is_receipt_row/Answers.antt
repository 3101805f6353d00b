use Rattle.std.proofs.Common.{◌≡◌, ◌∙◌, length, true, refl, rules, sym}
use Rattle.std.proofs.lemmas.Bool.{false≢true}
use Rattle.pid_ident.specs.Words.{is_account}
use Rattle.pid_tables.proofs.OfCheck.WordTexts.{account_utf8}
use Rattle.pid_tables.proofs.OfCheck.ReceiptFacts.{receipt_made, account_of, account_is}
use Rattle.pid_tables.proofs.check.receipt.is_receipt_row.Goals as goal

pub returns-in-None : goal.returns-in-None
returns-in-None c rows are = (λ no. absurd (false≢true no), λ it. let of = account_of rows c.args.row.now it in absurd (c.in-None.ensures.none of.0 of.1 (account_utf8 of.0 of.2)))

pub returns-else-not-is_account : goal.returns-else-not-is_account
returns-else-not-is_account c rows are =
    let r = c.args.row.now in
    let account = c.in-Some.account.now in
    let len : length r ≡ 6 = sym c.column_count.ensures ∙ c.if-column_count-ne6.false in
    let known : is_account account ≡ true = search rules in
    let found = c.in-Some.ensures.found in
    let key = c.if-not-has_key.ensures.0 refl in
    let it = c.is_own.ensures rows are in
    (λ yes. receipt_made rows r account len found known key (it.0 yes), λ row. it.1 (account_is rows r account found row).1)
