use Rattle.std.proofs.Common.{sym, ap, ◌∙◌}
use Rattle.sqlite.specs.declared.types.Value.TheVariants.{Text}
use Rattle.pid_tables.specs.Rows.TableRows.{number}
use Rattle.pid_tables.specs.Check.Conditions.{IsAccountRow}
use Rattle.pid_tables.proofs.OfCheck.ItemFacts.{one_row}
use Rattle.pid_tables.proofs.OfCheck.AccountFacts.{value_or}
use Rattle.pid_tables.proofs.OfCheck.NameFacts.{name_added, name_skipped, on_is_ok}
use Rattle.pid_tables.proofs.check.account.AccountsRowFold.keep.Goals as goal

pub returns-in_default-clause-kept : goal.returns-in_default-clause-kept
returns-in_default-clause-kept c first rows was =
    let row = c.args.row.now in
    let old = c.args.self.now in
    record {
      good = one_row IsAccountRow rows row old.good c.is_account_row.result c.is_account_row.ensures was.good;
      administrator = value_or rows row 1 (number 3) old.administrator c.is_number_at.result was.administrator c.is_number_at.ensures;
      names = name_skipped old.names rows row c.in_default.ensures.none was.names;
    }

pub returns-clause-kept : goal.returns-clause-kept
returns-clause-kept c first rows was =
    let row = c.args.row.now in
    let old = c.args.self.now in
    record {
      good = one_row IsAccountRow rows row old.good c.is_account_row.result c.is_account_row.ensures was.good;
      administrator = value_or rows row 1 (number 3) old.administrator c.is_number_at.result was.administrator c.is_number_at.ensures;
      names = name_added old.names c.insert.new.self c.in_ok-name.name rows row (c.in-Some.ensures.found ∙ ap Text (sym c.in_ok-name.ensures.ok)) (on_is_ok c.insert.result (sym c.if-not-inserted.ensures.value) c.insert.ensures.keys) was.names;
    }
