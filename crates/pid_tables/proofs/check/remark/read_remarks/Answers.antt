use Rattle.pid_tables.specs.Rows.Faults.{IsMemoryOrStore}
use Rattle.pid_tables.proofs.OfRows.CauseLemmas.{passed_on}
use Rattle.pid_tables.specs.Check.Steps.PlaceSets.{IsRemark}
use Rattle.pid_tables.proofs.OfCheck.ItemFacts.{no_row}
use Rattle.pid_tables.proofs.OfCheck.RemarkFacts.{no_places, remarks_judged}
use Rattle.pid_tables.proofs.check.remark.read_remarks.Goals as goal

pub returns-in_err-fold_rows : goal.returns-in_err-fold_rows
returns-in_err-fold_rows g c = record {
  rests = c.in_err-fold_rows.ensures.rests;
  keeps = λ clean d is asked. passed_on c.from_residual.result _ _ IsMemoryOrStore c.from_residual.ensures.1 (c.in_err-fold_rows.ensures.keeps clean d is asked);
}

pub returns : goal.returns
returns g c = record {
  rests = c.in_ok-fold_rows.ensures.rests;
  keeps = λ clean d is asked.
      let it = c.in_ok-fold_rows.ensures.keeps clean d is asked in
      let taken = it.0.2 (record { good = no_row IsRemark; places = no_places _ c.new.ensures.empty }) in
      ((it.0.0, it.0.1, remarks_judged it.0.0 c.fold_rows.new.keeper c.follow_each.result taken c.follow_each.ensures), it.1);
}
