use Rattle.pid_tables.specs.declared.rows.schema_version.Version.TheVariants.{Two}
use Rattle.pid_tables.specs.Rows.Schema.{pid_schema}
use Rattle.pid_tables.proofs.OfRows.KeyTexts.{insert_remark_is}
use Rattle.pid_tables.proofs.OfRows.WriteFaults.{led, insert_writes}
use Rattle.pid_tables.proofs.OfRows.WriteRows.{remark_added}
use Rattle.pid_tables.proofs.rows.remark.add_remark.Goals as goal

pub returns : goal.returns
returns g c = record {
  same_reference = c.write_one.ensures.same_reference;
  goes = c.write_one.ensures.goes;
  shows = λ clean inside counts v shows fits.
      let old = g.B.Batch.batch.state c.args.tx.now in
      let new = g.B.Batch.batch.state c.write_one.new.self in
      led c.write_one.result (remark_added old new counts v shows c.args.number c.args.place (record { author = c.args.author.now; text = c.args.text.now }) fits)
      (rw (c.to_sql-number.ensures, c.to_sql-place.ensures, c.to_sql-author.ensures, c.to_sql-text.ensures, c.as_str.ensures.text, c.as_str-2.ensures.text) at (c.write_one.ensures.runs.ran clean inside)) (c.write_one.ensures.runs.only_store clean pid_schema (λ opened. shows.schema) (insert_writes (insert_remark_is Two)));
}
