use Rattle.pid_tables.specs.Rows.Faults.{IsMemoryOrStore}
use Rattle.pid_tables.proofs.OfRows.CauseLemmas.{passed_on}
use Rattle.pid_tables.specs.Check.Steps.Labels.{IsLabel}
use Rattle.pid_tables.proofs.OfCheck.ItemFacts.{no_row}
use Rattle.pid_tables.proofs.check.meta.read_labels.Goals as goal

pub returns-in_err-fold_rows : goal.returns-in_err-fold_rows
returns-in_err-fold_rows g c = record {
  rests = c.in_err-fold_rows.ensures.rests;
  keeps = λ clean d is asked. passed_on c.from_residual.result _ _ IsMemoryOrStore c.from_residual.ensures.1 (c.in_err-fold_rows.ensures.keeps clean d is asked);
}

pub returns : goal.returns
returns g c = record {
  rests = c.in_ok-fold_rows.ensures.rests;
  keeps = λ clean d is asked.
      let it = c.in_ok-fold_rows.ensures.keeps clean d is asked in
      ((it.0.0, it.0.1, it.0.2 (record { good = no_row IsLabel; later = λ n later. later.1; schema = λ n has. has; items = λ n has. has; submissions = λ n has. has; revision = λ n has. has })), it.1);
}
