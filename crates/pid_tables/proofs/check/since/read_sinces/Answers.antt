use Rattle.std.proofs.Common.{refl}
use Rattle.pid_tables.specs.Rows.Faults.{IsMemoryOrStore}
use Rattle.pid_tables.proofs.OfRows.CauseLemmas.{passed_on}
use Rattle.pid_tables.specs.Check.Conditions.{IsSinceRow}
use Rattle.pid_tables.proofs.OfCheck.ItemFacts.{no_paths, no_row}
use Rattle.pid_tables.proofs.OfCheck.SinceFacts.{sinces_judged}
use Rattle.pid_tables.proofs.check.since.read_sinces.Goals as goal

pub returns-in_err-fold_rows : goal.returns-in_err-fold_rows
returns-in_err-fold_rows g c = record {
  rests = c.in_err-fold_rows.ensures.rests;
  keeps = λ clean d is asked. passed_on c.from_residual.result _ _ IsMemoryOrStore c.from_residual.ensures.1 (c.in_err-fold_rows.ensures.keeps clean d is asked);
}

pub returns : goal.returns
returns g c = record {
  rests = c.in_ok-fold_rows.ensures.rests;
  keeps = λ clean d is asked.
      let it = c.in_ok-fold_rows.ensures.keeps clean d is asked in
      let taken = it.0.2 (record { revision = refl; good = no_row (IsSinceRow c.args.revision); paths = no_paths _ c.new.ensures.empty }) in
      ((it.0.0, it.0.1, sinces_judged _ it.0.0 c.fold_rows.new.keeper c.args.items.now c.is_subset.result taken c.is_subset.ensures), it.1);
}
