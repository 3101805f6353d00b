use Rattle.pid_tables.specs.declared.rows.schema_version.Version.TheVariants.{Two}
use Rattle.pid_tables.specs.Rows.Schema.{pid_schema}
use Rattle.pid_tables.proofs.OfRows.KeyTexts.{delete_item_is}
use Rattle.pid_tables.proofs.OfRows.WriteFaults.{led, delete_writes}
use Rattle.pid_tables.proofs.OfRows.WriteRows.{item_removed}
use Rattle.pid_tables.proofs.rows.item.remove_item.Goals as goal

pub returns : goal.returns
returns g c = record {
  same_reference = c.write_one.ensures.same_reference;
  goes = c.write_one.ensures.goes;
  shows = λ clean inside counts v shows fits.
      let old = g.B.Batch.batch.state c.args.tx.now in
      let new = g.B.Batch.batch.state c.write_one.new.self in
      led c.write_one.result (item_removed old new counts v shows c.args.path.now)
      (rw (c.to_sql-path.ensures) at (c.write_one.ensures.runs.ran clean inside)) (c.write_one.ensures.runs.only_store clean pid_schema (λ opened. shows.schema) (delete_writes (delete_item_is Two)));
}
