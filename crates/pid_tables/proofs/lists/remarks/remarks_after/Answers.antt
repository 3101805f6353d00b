use Rattle.std.proofs.Common.{◌≡◌, ◌∙◌, Ok, map, take, refl}
use Rattle.pid_moderation.specs.RemarkPages.{placed_after}
use Rattle.pid_tables.specs.Lists.Steps.RemarkRows.{placed_row}
use Rattle.pid_tables.specs.Rows.Causes.{IsCaused, IsReadable}
use Rattle.pid_tables.specs.Rows.Shows.{counts_of}
use Rattle.pid_tables.specs.Rows.Schema.{pid_schema}
use Rattle.pid_tables.proofs.OfRows.CauseLemmas.{passed_on}
use Rattle.pid_tables.proofs.OfRows.FindLemmas.{at_rest}
use Rattle.pid_tables.proofs.OfLists.RemarkPageLists.{after_found, after_query, all_readable, select_after}
use Rattle.pid_tables.proofs.OfLists.RowLists.{read_or_caused}
use Rattle.pid_tables.proofs.lists.remarks.remarks_after.Goals as goal

pub returns : goal.returns
returns g c = record {
  rests = c.in_ok-rows.ensures.rests;
  told = λ clean v rest.
      let old = g.C.Database.state c.args.tables.now.conn in
      let new = g.C.Database.state c.read_rows.new.tables.conn in
      let all = take 100 (placed_after c.args.after (v.remarks c.args.number)) in
      let found = at_rest g.C.Database.state c.args.tables.now.conn new v select_after _ (Ok c.in_ok-rows.rows) (λ rows. rows.items) (λ rows. rows.items ≡ map placed_row all) rest
      (λ mid rows shows h. after_found _ (counts_of v) v shows c.args.number c.args.after _ mid refl rows.items h) (rw (c.to_sql-number.ensures, c.to_sql-after.ensures) at (c.in_ok-rows.ensures.shown clean)) tt in
      read_or_caused old new v c.remarks_of.result _ _ (λ readable. all_readable v c.args.number c.args.after 100 readable) (λ x h. h)
      (c.remarks_of.ensures all (c.as_slice.ensures.value ∙ found));
}

pub returns-in_err-rows : goal.returns-in_err-rows
returns-in_err-rows g c = record {
  rests = c.in_err-rows.ensures.rests;
  told = λ clean v rest.
      passed_on c.from_residual.result _ _ (λ fault. IsReadable v → IsCaused (g.C.Database.state c.args.tables.now.conn) (g.C.Database.state c.read_rows.new.tables.conn) fault) c.from_residual.ensures.1
      (λ readable. (rw (c.to_sql-number.ensures, c.to_sql-after.ensures) at (c.in_err-rows.ensures.faults.caused clean pid_schema (λ opened. (rest.shows opened).schema))) (after_query c.args.number c.args.after));
}
