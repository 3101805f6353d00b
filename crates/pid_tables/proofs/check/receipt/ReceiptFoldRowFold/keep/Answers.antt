use Rattle.pid_tables.proofs.OfCheck.ReceiptFacts.{one_receipt}
use Rattle.pid_tables.proofs.check.receipt.ReceiptFoldRowFold.keep.Goals as goal

pub returns-clause-kept : goal.returns-clause-kept
returns-clause-kept c first rows was = record {
  authors = was.authors;
  good = one_receipt c.args.self.now.authors.now rows c.args.row.now c.args.self.now.good c.is_receipt_row.result c.is_receipt_row.ensures was.good;
}
