use Rattle.std.proofs.Common.{◌∙◌, Ok, refl}
use Rattle.pid_moderation.specs.PendingPages.{pending_in}
use Rattle.pid_tables.specs.Rows.Causes.{IsCaused, IsReadable}
use Rattle.pid_tables.specs.Rows.Shows.{counts_of}
use Rattle.pid_tables.specs.Rows.Schema.{pid_schema}
use Rattle.pid_tables.proofs.OfRows.CauseLemmas.{passed_on}
use Rattle.pid_tables.proofs.OfRows.FindLemmas.{at_rest}
use Rattle.pid_tables.specs.Lists.Steps.PendingRows.{ArePendingIn}
use Rattle.pid_tables.proofs.OfLists.PendingLists.{all_readable, select_page, page_found, page_in, page_query}
use Rattle.pid_tables.proofs.OfLists.RowLists.{read_or_caused}
use Rattle.pid_tables.proofs.tables.Tables.pending_page.Goals as goal

pub returns : goal.returns
returns g c = record {
  rests = c.in_ok-rows.ensures.rests;
  told = λ clean v rest.
      let old = g.C.Database.state c.args.self.now.conn in
      let new = g.C.Database.state c.read_rows.new.tables.conn in
      let all = pending_in 100 c.args.after v in
      let found = at_rest g.C.Database.state c.args.self.now.conn new v select_page _ (Ok c.in_ok-rows.rows) (λ rows. rows.items) (λ rows. ArePendingIn v all rows.items) rest
      (λ mid rows shows h. (shows.views, page_in v c.args.after 100, page_found _ (counts_of v) v shows c.args.after _ mid refl rows.items h)) (rw c.to_sql-after.ensures at (c.in_ok-rows.ensures.shown clean)) tt in
      read_or_caused old new v c.page_of.result _ _ (λ readable. all_readable v all readable found.1) (λ x h. h)
      (c.page_of.ensures v all (found.0, found.1, c.as_slice.ensures.value ∙ found.2));
}

pub returns-in_err-rows : goal.returns-in_err-rows
returns-in_err-rows g c = record {
  rests = c.in_err-rows.ensures.rests;
  told = λ clean v rest.
      passed_on c.from_residual.result _ _ (λ fault. IsReadable v → IsCaused (g.C.Database.state c.args.self.now.conn) (g.C.Database.state c.read_rows.new.tables.conn) fault) c.from_residual.ensures.1
      (λ readable. (rw c.to_sql-after.ensures at (c.in_err-rows.ensures.faults.caused clean pid_schema (λ opened. (rest.shows opened).schema))) (page_query c.args.after));
}
