use Rattle.std.proofs.Common.{inl, inr, refl}
use Rattle.sqlite.specs.State.{HasCleanDisk}
use Rattle.pid_tables.specs.Rows.Faults.{IsMemoryOrStore}
use Rattle.pid_tables.proofs.OfRows.CauseLemmas.{passed_on}
use Rattle.pid_tables.proofs.OfRows.OnlyReading.{reads_then}
use Rattle.pid_tables.proofs.OfCheck.KeepingFacts.{submitted}
use Rattle.pid_tables.proofs.check.tables.read_submitted.Goals as goal

pub returns-in_err-accounts : goal.returns-in_err-accounts
returns-in_err-accounts g c = record {
  rests = c.read_accounts.ensures.rests;
  told = λ clean d is has. passed_on c.from_residual.result _ _ IsMemoryOrStore c.from_residual.ensures.1 (c.in_err-accounts.ensures.keeps clean d is (has _ (inr (inl refl))));
}

pub returns-in_err-submissions : goal.returns-in_err-submissions
returns-in_err-submissions g c = record {
  rests =
      reads_then (g.C.Database.state c.args.tables.now.conn) (g.C.Database.state c.read_accounts.new.tables.conn) (g.C.Database.state c.read_submissions-read.new.tables.conn) c.read_accounts.ensures.rests c.read_submissions-read.ensures.rests;
  told = λ clean d is has.
      let mid : HasCleanDisk (g.C.Database.state c.read_accounts.new.tables.conn) = c.read_submissions-read.ensures.rests.clean clean in
      let one = c.in_ok-accounts.ensures.keeps mid d is (has _ (inr (inl refl))) in
      passed_on c.from_residual-in_err-submissions.result _ _ IsMemoryOrStore c.from_residual-in_err-submissions.ensures.1 (c.in_err-submissions.ensures.keeps clean d one.1 (has _ (inr (inr (inr (inl refl))))));
}

pub returns-in_err-receipts : goal.returns-in_err-receipts
returns-in_err-receipts g c = record {
  rests =
      let a = g.C.Database.state c.args.tables.now.conn in
      let mid = g.C.Database.state c.read_accounts.new.tables.conn in
      let late = g.C.Database.state c.read_submissions-read.new.tables.conn in
      reads_then a late (g.C.Database.state c.read_receipts-kept.new.tables.conn) (reads_then a mid late c.read_accounts.ensures.rests c.read_submissions-read.ensures.rests) c.read_receipts-kept.ensures.rests;
  told = λ clean d is has.
      let late : HasCleanDisk (g.C.Database.state c.read_submissions-read.new.tables.conn) = c.read_receipts-kept.ensures.rests.clean clean in
      let mid : HasCleanDisk (g.C.Database.state c.read_accounts.new.tables.conn) = c.read_submissions-read.ensures.rests.clean late in
      let one = c.in_ok-accounts.ensures.keeps mid d is (has _ (inr (inl refl))) in
      let two = c.in_ok-submissions.ensures.keeps late d one.1 (has _ (inr (inr (inr (inl refl))))) in
      passed_on c.from_residual-in_err-receipts.result _ _ IsMemoryOrStore c.from_residual-in_err-receipts.ensures.1 (c.in_err-receipts.ensures.keeps clean d two.1 (has _ (inr (inr (inr (inr (inr (inl refl))))))));
}

pub returns : goal.returns
returns g c = record {
  rests =
      let a = g.C.Database.state c.args.tables.now.conn in
      let mid = g.C.Database.state c.read_accounts.new.tables.conn in
      let late = g.C.Database.state c.read_submissions-read.new.tables.conn in
      reads_then a late (g.C.Database.state c.read_receipts-kept.new.tables.conn) (reads_then a mid late c.read_accounts.ensures.rests c.read_submissions-read.ensures.rests) c.read_receipts-kept.ensures.rests;
  told = λ clean d is has.
      let late : HasCleanDisk (g.C.Database.state c.read_submissions-read.new.tables.conn) = c.read_receipts-kept.ensures.rests.clean clean in
      let mid : HasCleanDisk (g.C.Database.state c.read_accounts.new.tables.conn) = c.read_submissions-read.ensures.rests.clean late in
      let one = c.in_ok-accounts.ensures.keeps mid d is (has _ (inr (inl refl))) in
      let two = c.in_ok-submissions.ensures.keeps late d one.1 (has _ (inr (inr (inr (inl refl))))) in
      let three = c.in_ok-receipts.ensures.keeps clean d two.1 (has _ (inr (inr (inr (inr (inr (inl refl))))))) in
      (submitted d c.in_ok-accounts.accounts c.in_ok-submissions.submissions c.in_ok-receipts.receipts one.0 two.0 three.0, three.1);
}
