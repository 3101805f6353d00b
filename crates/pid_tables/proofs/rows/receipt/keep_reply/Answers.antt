use Rattle.pid_tables.specs.declared.rows.schema_version.Version.TheVariants.{Two}
use Rattle.pid_tables.specs.Rows.Schema.{pid_schema}
use Rattle.pid_tables.proofs.OfRows.KeyTexts.{insert_receipt_is}
use Rattle.pid_tables.proofs.OfRows.WriteFaults.{led, insert_writes}
use Rattle.pid_tables.proofs.OfRows.WriteRows.{reply_kept}
use Rattle.pid_tables.proofs.rows.receipt.keep_reply.Goals as goal

pub returns : goal.returns
returns g c = record {
  same_reference = c.write_one.ensures.same_reference;
  goes = c.write_one.ensures.goes;
  shows = λ clean inside counts v shows fits.
      let old = g.B.Batch.batch.state c.args.tx.now in
      let new = g.B.Batch.batch.state c.write_one.new.self in
      led c.write_one.result (reply_kept old new counts v shows c.args.account.now c.args.key.now c.args.reply fits)
      (rw (c.to_sql-account.ensures, c.to_sql-key.ensures, c.to_sql-kind.ensures, c.to_sql-first.ensures, c.to_sql-second.ensures, c.to_sql-third.ensures, c.as_str.ensures.text, c.as_str-2.ensures.text, c.numbers-kind.ensures.kind, c.numbers-kind.ensures.first, c.numbers-kind.ensures.second, c.numbers-kind.ensures.third) at (c.write_one.ensures.runs.ran clean inside)) (c.write_one.ensures.runs.only_store clean pid_schema (λ opened. shows.schema) (insert_writes (insert_receipt_is Two)));
}
