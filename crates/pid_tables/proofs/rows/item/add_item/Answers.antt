use Rattle.pid_tables.specs.declared.rows.schema_version.Version.TheVariants.{Two}
use Rattle.pid_tables.specs.Rows.Schema.{pid_schema}
use Rattle.pid_tables.proofs.OfRows.KeyTexts.{insert_item_is, insert_since_is}
use Rattle.pid_tables.proofs.OfRows.WriteFaults.{led_on, insert_writes}
use Rattle.pid_tables.proofs.OfRows.WriteRows.{item_added, number_added}
use Rattle.pid_tables.proofs.rows.item.add_item.Goals as goal

pub returns : goal.returns
returns g c = record {
  same_reference = c.write_both.ensures.same_reference;
  goes = c.write_both.ensures.goes;
  shows = λ clean inside counts v shows none.
      let old = g.B.Batch.batch.state c.args.tx.now in
      let path = c.args.path.now in
      let name = c.args.name.now in
      led_on c.write_both.result (λ both. number_added (g.B.Batch.batch.state both.0) (g.B.Batch.batch.state c.write_both.new.tx) counts v path name c.args.since (item_added old (g.B.Batch.batch.state both.0) counts v shows path name none both.1) none both.2)
      (c.write_both.ensures.runs clean inside pid_schema shows.schema (insert_writes (insert_item_is Two)) (λ mid ran. (item_added old (g.B.Batch.batch.state mid) counts v shows path name none ran).schema) (insert_writes insert_since_is));
}
