use Rattle.std.proofs.Common.{true, refl}
use Rattle.pid_tables.specs.declared.rows.schema_version.Version.TheVariants.{Two}
use Rattle.pid_tables.specs.Rows.Shows.{counts_of}
use Rattle.pid_tables.specs.Rows.Schema.{pid_schema}
use Rattle.pid_tables.proofs.OfRows.StatementTexts.{select_meta}
use Rattle.pid_tables.proofs.OfRows.QueryTexts.{meta_query}
use Rattle.pid_tables.proofs.OfRows.FindLemmas.{at_rest, value_found}
use Rattle.pid_tables.proofs.OfRows.LabelLemmas.{values_shown}
use Rattle.pid_tables.proofs.OfRows.LabelTexts.{asked_plain}
use Rattle.pid_tables.proofs.rows.meta.value_rows.Goals as goal

pub returns-clause-reads : goal.returns-clause-reads
returns-clause-reads g c = record {
  rests = c.read_rows.ensures.rests;
  told = λ clean v rest.
      at_rest g.C.Database.state c.args.tables.now.conn (g.C.Database.state c.read_rows.new.tables.conn) v select_meta _ c.read_rows.result (λ rows. rows.items) _ rest (λ new rows shows h. value_found _ new (counts_of v) v shows rows.items c.args.label.now h)
      (rw (c.to_sql-label.ensures) at (c.read_rows.ensures.shown clean)) ((rw c.to_sql-label.ensures at (c.read_rows.ensures.faults.caused clean pid_schema (λ opened. (rest.shows opened).schema))) (meta_query Two c.args.label.now));
}

pub returns-clause-shows : goal.returns-clause-shows
returns-clause-shows g c clean =
    values_shown g.C.Database.state c.args.label.now ((record (g.C.Database.state c.args.tables.now.conn) { in_transaction = true })) c.read_rows.result (rw (c.to_sql-label.ensures) at (c.read_rows.ensures.shown clean))

pub returns-clause-only_store : goal.returns-clause-only_store
returns-clause-only_store g c clean query is = c.read_rows.ensures.faults.only_store clean _ refl (asked_plain _ query is)

pub returns-clause-never : goal.returns-clause-never
returns-clause-never g c = c.read_rows.ensures.faults.never
