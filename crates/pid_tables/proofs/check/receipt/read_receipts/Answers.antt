use Rattle.std.proofs.Common.{refl, subst}
use Rattle.pid_tables.specs.Rows.Faults.{IsMemoryOrStore}
use Rattle.pid_tables.proofs.OfRows.CauseLemmas.{passed_on}
use Rattle.pid_tables.specs.Check.Steps.Keeping.{AreOfAuthors}
use Rattle.pid_tables.proofs.check.receipt.read_receipts.Goals as goal

pub returns-in_err-fold_rows : goal.returns-in_err-fold_rows
returns-in_err-fold_rows g c = record {
  rests = c.in_err-fold_rows.ensures.rests;
  keeps = λ clean d is asked. passed_on c.from_residual.result _ _ IsMemoryOrStore c.from_residual.ensures.1 (c.in_err-fold_rows.ensures.keeps clean d is asked);
}

pub returns : goal.returns
returns g c = record {
  rests = c.in_ok-fold_rows.ensures.rests;
  keeps = λ clean d is asked.
      let it = c.in_ok-fold_rows.ensures.keeps clean d is asked in
      let taken = it.0.2 (record { authors = refl; good = λ submissions are. (λ yes r h. absurd h, λ all. refl) }) in
      ((it.0.0, it.0.1, subst (λ authors. AreOfAuthors authors it.0.0 c.fold_rows.new.keeper.good) taken.authors taken.good), it.1);
}
