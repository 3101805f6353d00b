use Rattle.pid_tables.specs.Rows.Faults.{IsMemoryOrStore}
use Rattle.pid_tables.proofs.OfRows.CauseLemmas.{passed_on}
use Rattle.pid_tables.proofs.OfRows.KeyTexts.{select_meta_is}
use Rattle.pid_tables.proofs.OfRows.StatementTexts.{select_meta}
use Rattle.pid_tables.proofs.OfRows.ReadLemmas.{shows_still}
use Rattle.pid_tables.specs.declared.rows.schema_version.Version.TheVariants.{Two}
use Rattle.pid_tables.specs.Rows.Schema.{pid_schema}
use Rattle.pid_tables.proofs.MoveLemmas.{goes_fault, goes_value}
use Rattle.pid_tables.proofs.rows.meta.probe_transaction.Goals as goal

pub returns : goal.returns
returns g c = record {
  same_reference = c.read_inside.ensures.same_reference;
  goes = goes_value (g.B.Batch.batch.state c.args.tx.now) (g.B.Batch.batch.state c.read_inside.new.self) _ _ c.in_ok-read_inside.ensures.goes;
  shows = λ clean inside counts v shows _.
      shows_still select_meta _ (g.B.Batch.batch.state c.args.tx.now) (g.B.Batch.batch.state c.read_inside.new.self) c.in_ok-read_inside.field-0.items counts v (select_meta_is Two).plain shows (c.in_ok-read_inside.ensures.shown clean);
}

pub returns-in_err-read_inside : goal.returns-in_err-read_inside
returns-in_err-read_inside g c = record {
  same_reference = c.read_inside.ensures.same_reference;
  goes = goes_fault (g.B.Batch.batch.state c.args.tx.now) (g.B.Batch.batch.state c.read_inside.new.self) _ c.from_residual.result c.from_residual.ensures.1 c.in_err-read_inside.ensures.goes;
  shows = λ clean inside counts v shows _.
      passed_on c.from_residual.result _ _ IsMemoryOrStore c.from_residual.ensures.1 (c.in_err-read_inside.ensures.faults.only_store clean pid_schema shows.schema (select_meta_is Two).plain);
}
