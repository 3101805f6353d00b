use Rattle.std.proofs.Common.{sym, codes, ◌∙◌}
use Rattle.std.proofs.lemmas.Bool.{false≢true}
use Rattle.pid_tables.specs.Rows.Faults.{IsMemoryOrStore}
use Rattle.pid_tables.proofs.OfRows.CauseLemmas.{passed_on}
use Rattle.pid_tables.specs.Check.Conditions.{IsAccountRow}
use Rattle.pid_tables.proofs.OfCheck.ItemFacts.{no_row}
use Rattle.pid_tables.proofs.OfCheck.NameFacts.{no_names}
use Rattle.pid_tables.proofs.OfCheck.AccountFacts.{accounts_judged, root_utf8}
use Rattle.pid_tables.proofs.check.account.read_accounts.Goals as goal

pub returns-in_err-fold_rows : goal.returns-in_err-fold_rows
returns-in_err-fold_rows g c = record {
  rests = c.in_err-fold_rows.ensures.rests;
  keeps = λ clean d is asked. passed_on c.from_residual.result _ _ IsMemoryOrStore c.from_residual.ensures.1 (c.in_err-fold_rows.ensures.keeps clean d is asked);
}

pub returns : goal.returns
returns g c = record {
  rests = c.in_ok-fold_rows.ensures.rests;
  keeps = λ clean d is asked.
      let it = c.in_ok-fold_rows.ensures.keeps clean d is asked in
      let taken = it.0.2 (record { good = no_row IsAccountRow; administrator = (λ no. absurd (false≢true no), λ some. absurd some.1); names = no_names _ c.new.ensures.empty }) in
      let root = taken.names (codes "root") root_utf8 in
      ((it.0.0, it.0.1, record { names = taken.names; good = accounts_judged it.0.0 c.fold_rows.new.keeper c.contains.result taken (λ yes. root.0 (sym c.contains.ensures ∙ yes), λ has. c.contains.ensures ∙ root.1 has) }), it.1);
}
