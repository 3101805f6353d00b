use Rattle.pid_tables.specs.declared.rows.schema_version.Version.TheVariants.{Two}
use Rattle.pid_tables.specs.Rows.Schema.{pid_schema}
use Rattle.pid_tables.proofs.OfRows.KeyTexts.{update_meta_is}
use Rattle.pid_tables.proofs.OfRows.WriteFaults.{led, update_writes}
use Rattle.pid_tables.proofs.OfRows.WriteRows.{items_counted}
use Rattle.pid_tables.proofs.rows.meta.count_items.Goals as goal

pub returns : goal.returns
returns g c = record {
  same_reference = c.write_one.ensures.same_reference;
  goes = c.write_one.ensures.goes;
  shows = λ clean inside counts v shows fits.
      let old = g.B.Batch.batch.state c.args.tx.now in
      let new = g.B.Batch.batch.state c.write_one.new.self in
      led c.write_one.result (items_counted old new counts v shows c.args.count)
      (rw (c.to_sql-label.ensures, c.to_sql-value.ensures) at (c.write_one.ensures.runs.ran clean inside)) (c.write_one.ensures.runs.only_store clean pid_schema (λ opened. shows.schema) (update_writes (update_meta_is Two)));
}
