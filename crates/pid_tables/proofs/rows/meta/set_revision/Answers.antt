use Rattle.pid_tables.specs.Rows.Faults.{IsMemoryOrStore}
use Rattle.pid_tables.specs.Rows.Schema.{pid_schema}
use Rattle.pid_tables.specs.declared.rows.schema_version.Version.TheVariants.{Two}
use Rattle.pid_tables.proofs.OfRows.CauseLemmas.{passed_on}
use Rattle.pid_tables.proofs.OfRows.KeyTexts.{update_meta_is}
use Rattle.pid_tables.proofs.OfRows.WriteFaults.{led, update_writes}
use Rattle.pid_tables.proofs.OfRows.WriteRows.{revision_written}
use Rattle.std.proofs.Common.{refl}
use Rattle.pid_tables.proofs.MoveLemmas.{goes_nowhere}
use Rattle.pid_tables.proofs.rows.meta.set_revision.Goals as goal

pub returns : goal.returns
returns g c = record {
  same_reference = c.write_one.ensures.same_reference;
  goes = c.write_one.ensures.goes;
  shows = λ clean inside counts v shows fits.
      let old = g.B.Batch.batch.state c.args.tx.now in
      let new = g.B.Batch.batch.state c.write_one.new.self in
      led c.write_one.result (revision_written old new counts v shows c.args.revision)
      (rw (c.to_sql-label.ensures, c.in_ok-value.ensures) at (c.write_one.ensures.runs.ran clean inside)) (c.write_one.ensures.runs.only_store clean pid_schema (λ opened. shows.schema) (update_writes (update_meta_is Two)));
}

pub returns-in_err-value : goal.returns-in_err-value
returns-in_err-value g c = record {
  same_reference = refl;
  goes = goes_nowhere (g.B.Batch.batch.state c.args.tx.now) _ c.from_residual.result c.from_residual.ensures.1;
  shows = λ clean inside counts v shows fits. passed_on c.from_residual.result _ _ IsMemoryOrStore c.from_residual.ensures.1 c.in_err-value.ensures;
}
