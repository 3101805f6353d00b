use Rattle.std.proofs.Common.{refl}
use Rattle.pid_tables.specs.Rows.Shows.{counts_of}
use Rattle.pid_tables.specs.Rows.Schema.{pid_schema}
use Rattle.pid_tables.proofs.OfRows.FindLemmas.{at_rest}
use Rattle.pid_tables.proofs.OfSearches.FilingLists.{filings_found, filings_query, select_filings}
use Rattle.pid_tables.proofs.searches.filings.filing_rows.Goals as goal

pub returns : goal.returns
returns g c = record {
  rests = c.read_rows.ensures.rests;
  told = λ clean v rest.
      at_rest g.C.Database.state c.args.tables.now.conn (g.C.Database.state c.read_rows.new.tables.conn) v select_filings _ c.read_rows.result (λ rows. rows.items) _ rest
      (λ new rows shows h. filings_found _ (counts_of v) v shows c.args.after _ new refl rows.items h)
      (rw c.to_sql-after.ensures at (c.read_rows.ensures.shown clean))
      ((rw c.to_sql-after.ensures at (c.read_rows.ensures.faults.caused clean pid_schema (λ opened. (rest.shows opened).schema))) (filings_query c.args.after));
}
