use Rattle.std.proofs.Common.{refl}
use Rattle.pid_tables.specs.Rows.Faults.{IsMemoryOrStore}
use Rattle.pid_tables.proofs.OfRows.CauseLemmas.{passed_on}
use Rattle.pid_tables.specs.Check.Steps.PathSets.{IsItemAlone}
use Rattle.pid_tables.proofs.OfCheck.ItemFacts.{no_paths, no_row, items_judged}
use Rattle.pid_tables.proofs.check.item.read_items.Goals as goal

pub returns-in_err-fold_rows : goal.returns-in_err-fold_rows
returns-in_err-fold_rows g c = record {
  rests = c.in_err-fold_rows.ensures.rests;
  keeps = λ clean d is asked. passed_on c.from_residual.result _ _ IsMemoryOrStore c.from_residual.ensures.1 (c.in_err-fold_rows.ensures.keeps clean d is asked);
}

pub returns : goal.returns
returns g c = record {
  rests = c.in_ok-fold_rows.ensures.rests;
  keeps = λ clean d is asked.
      let it = c.in_ok-fold_rows.ensures.keeps clean d is asked in
      let taken = it.0.2 (record { good = no_row IsItemAlone; count = refl; paths = no_paths _ c.new.ensures.empty }) in
      ((it.0.0, it.0.1, record { count = taken.count; paths = taken.paths; good = items_judged it.0.0 c.fold_rows.new.keeper c.hold_parents.result taken c.hold_parents.ensures }), it.1);
}
