use Rattle.pid_tables.specs.declared.rows.schema_version.Version.TheVariants.{Two}
use Rattle.pid_tables.specs.Rows.Schema.{pid_schema}
use Rattle.pid_tables.proofs.OfRows.KeyTexts.{update_item_is, update_since_is}
use Rattle.pid_tables.proofs.OfRows.WriteFaults.{led_on, update_writes}
use Rattle.pid_tables.proofs.OfRows.WriteRows.{item_renamed, number_changed}
use Rattle.pid_tables.proofs.rows.item.rename_item.Goals as goal

pub returns : goal.returns
returns g c = record {
  same_reference = c.write_both.ensures.same_reference;
  goes = c.write_both.ensures.goes;
  shows = λ clean inside counts v shows fits.
      let old = g.B.Batch.batch.state c.args.tx.now in
      let path = c.args.path.now in
      let name = c.args.name.now in
      led_on c.write_both.result (λ both. number_changed (g.B.Batch.batch.state both.0) (g.B.Batch.batch.state c.write_both.new.tx) counts v path name c.args.since (item_renamed old (g.B.Batch.batch.state both.0) counts v shows path name fits.0 both.1) fits.0 fits.1 both.2)
      (c.write_both.ensures.runs clean inside pid_schema shows.schema (update_writes (update_item_is Two)) (λ mid ran. (item_renamed old (g.B.Batch.batch.state mid) counts v shows path name fits.0 ran).schema) (update_writes update_since_is));
}
