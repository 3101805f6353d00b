use Rattle.std.proofs.Common.{◌≡◌, MatchResult, refl, subst, sym}
use Rattle.pid_moderation.specs.declared.facts.State.{State}
use Rattle.pid_moderation.specs.declared.facts.State.TheVariants.{Pending, Approved, Rejected, Withdrawn}
use Rattle.pid_tables.specs.declared.rows.schema_version.Version.TheVariants.{Two}
use Rattle.pid_tables.specs.Rows.Faults.{IsMemoryOrStore}
use Rattle.pid_tables.specs.Rows.Schema.{pid_schema}
use Rattle.pid_tables.specs.Rows.Steps.Shows.{ShowsCounting}
use Rattle.pid_tables.specs.Rows.Steps.Writes.{with_state}
use Rattle.pid_tables.specs.Rows.Steps.Writes.{NamesDecider}
use Rattle.pid_tables.proofs.OfRows.KeyTexts.{update_submission_is, withdraw_submission_is}
use Rattle.pid_tables.proofs.OfRows.WriteFaults.{led, update_writes}
use Rattle.pid_tables.proofs.OfRows.WriteRows.{submission_decided, submission_withdrawn}
use Rattle.pid_tables.proofs.rows.submission.decide.Goals as goal

-- all but one name who decided
others : (s : State) → (s ≡ Withdrawn → ⊥) → NamesDecider s
others Pending not = tt
others (Approved decider) not = tt
others (Rejected decider reason) not = tt
others Withdrawn not = not refl

pub returns-in-Withdrawn : goal.returns-in-Withdrawn
returns-in-Withdrawn g c = record {
  same_reference = c.write_one.ensures.same_reference;
  goes = c.write_one.ensures.goes;
  shows = λ clean inside counts v shows fits.
      let old = g.B.Batch.batch.state c.args.tx.now in
      let new = g.B.Batch.batch.state c.write_one.new.self in
      subst (λ s. MatchResult c.write_one.result (λ _. ShowsCounting counts new.now (with_state c.args.number s v)) IsMemoryOrStore) (sym c.in-Withdrawn.is)
      (led c.write_one.result (submission_withdrawn old new counts v shows c.args.number fits)
      (rw (c.to_sql.ensures) at (c.write_one.ensures.runs.ran clean inside)) (c.write_one.ensures.runs.only_store clean pid_schema (λ opened. shows.schema) (update_writes (withdraw_submission_is Two))));
}

pub returns : goal.returns
returns g c = record {
  same_reference = c.write_one-2.ensures.same_reference;
  goes = c.write_one-2.ensures.goes;
  shows = λ clean inside counts v shows fits.
      let old = g.B.Batch.batch.state c.args.tx.now in
      let new = g.B.Batch.batch.state c.write_one-2.new.self in
      led c.write_one-2.result (submission_decided old new counts v shows c.args.number c.args.state.now (others c.args.state.now c.in_default.not-Withdrawn) fits)
      (rw (c.to_sql-number.ensures, c.to_sql-told.ensures, c.to_sql-decider.ensures, c.to_sql-reason.ensures, c.state_columns-told.ensures.number, c.state_columns-told.ensures.decider, c.state_columns-told.ensures.reason) at (c.write_one-2.ensures.runs.ran clean inside))
      (c.write_one-2.ensures.runs.only_store clean pid_schema (λ opened. shows.schema) (update_writes (update_submission_is Two)));
}
