use Rattle.std.proofs.Common.{refl}
use Rattle.pid_tables.proofs.OfCheck.ReceiptFacts.{numbered_so}
use Rattle.pid_tables.proofs.check.receipt.is_numbered.Goals as goal

pub returns-in-Some : goal.returns-in-Some
returns-in-Some c rows are =
    numbered_so rows c.args.row.now c.args.account.now c.in-Some.submission c.is_by.result c.in-Some.ensures.found (c.if-not-is_number_at.ensures.0 refl) (c.if-not-is_number_at-2.ensures.0 refl) (c.is_by.ensures rows are)
