use Rattle.std.proofs.Common.{refl}
use Rattle.pid_tables.specs.Rows.Shows.{counts_of}
use Rattle.pid_tables.specs.Rows.Schema.{pid_schema}
use Rattle.pid_tables.proofs.OfRows.FindLemmas.{at_rest}
use Rattle.pid_tables.specs.Lists.Steps.SubmissionRows.{WantedRows}
use Rattle.pid_tables.proofs.OfLists.SubmissionLists.{select_numbers, numbers_found, numbers_query}
use Rattle.pid_tables.proofs.lists.submissions.number_rows.Goals as goal

pub returns : goal.returns
returns g c = record {
  rests = c.read_rows.ensures.rests;
  told = λ clean v rest.
      let asked : WantedRows = record { low = c.args.low; last = c.args.last; path = c.args.path.now; author = c.args.author.now } in
      at_rest g.C.Database.state c.args.tables.now.conn (g.C.Database.state c.read_rows.new.tables.conn) v select_numbers _ c.read_rows.result (λ rows. rows.items) _ rest
      (λ new rows shows h. numbers_found _ (counts_of v) v shows asked _ new refl rows.items h)
      (rw (c.to_sql-low.ensures, c.to_sql-last.ensures, c.to_sql-path.ensures, c.to_sql-author.ensures) at (c.read_rows.ensures.shown clean))
      ((rw (c.to_sql-low.ensures, c.to_sql-last.ensures, c.to_sql-path.ensures, c.to_sql-author.ensures) at (c.read_rows.ensures.faults.caused clean pid_schema (λ opened. (rest.shows opened).schema))) (numbers_query asked));
}
