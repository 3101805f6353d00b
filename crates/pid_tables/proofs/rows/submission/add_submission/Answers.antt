use Rattle.std.proofs.Common.{refl, rules, ◌∙◌}
use Rattle.pid_tables.specs.declared.rows.schema_version.Version.TheVariants.{Two}
use Rattle.pid_tables.specs.Rows.Schema.{pid_schema}
use Rattle.pid_tables.specs.declared.rows.fault.TableFault.TheVariants.{Memory}
use Rattle.pid_tables.specs.Rows.Faults.{IsMemoryOrStore}
use Rattle.pid_tables.proofs.MoveLemmas.{goes_nowhere}
use Rattle.pid_tables.proofs.OfRows.CauseLemmas.{passed_on}
use Rattle.pid_tables.proofs.OfRows.KeyTexts.{insert_submission_is}
use Rattle.pid_tables.proofs.OfRows.WriteFaults.{led, insert_writes}
use Rattle.pid_tables.proofs.OfRows.WriteRows.{submission_added}
use Rattle.pid_tables.proofs.rows.submission.add_submission.Goals as goal

pub returns : goal.returns
returns g c = record {
  same_reference = c.write_one.ensures.same_reference;
  goes = c.write_one.ensures.goes;
  shows = λ clean inside counts v shows fits.
      let old = g.B.Batch.batch.state c.args.tx.now in
      let new = g.B.Batch.batch.state c.write_one.new.self in
      let text = c.as_str-2.ensures.value ∙ c.in_ok-text.ensures in
      led c.write_one.result (submission_added old new counts v shows (record { author = c.args.author.now; path = c.args.path; proposal = c.args.proposal.now; note = c.args.note.now }) (search rules) c.args.number fits)
      (rw (c.to_sql-number.ensures, c.to_sql-author.ensures, c.to_sql-path.ensures, c.to_sql-form.ensures, c.to_sql-name.ensures, c.to_sql-note.ensures, c.as_str.ensures.text, c.as_str-3.ensures.text, c.form_and_name-form.ensures.form, c.form_and_name-form.ensures.name, text) at (c.write_one.ensures.runs.ran clean inside))
      (c.write_one.ensures.runs.only_store clean pid_schema (λ opened. shows.schema) (insert_writes (insert_submission_is Two)));
}

pub returns-in_err-text : goal.returns-in_err-text
returns-in_err-text g c = record {
  same_reference = refl;
  goes = goes_nowhere (g.B.Batch.batch.state c.args.tx.now) Memory c.from_residual.result c.from_residual.ensures.1;
  shows = λ clean inside counts v shows fits. passed_on c.from_residual.result Memory _ IsMemoryOrStore c.from_residual.ensures.1 tt;
}
