use Rattle.std.proofs.Common.{◌∙◌}
use Rattle.pid_tables.specs.Rows.Faults.{IsMemoryOrStore}
use Rattle.pid_tables.proofs.OfRows.CauseLemmas.{passed_on}
use Rattle.pid_tables.proofs.OfRows.GoingLemmas.{earlier, goes_then}
use Rattle.pid_tables.proofs.MoveLemmas.{goes_fault}
use Rattle.pid_tables.proofs.batch.submit.Goals as goal

pub returns : goal.returns
returns g c = record {
  same_reference = c.count_submissions.ensures.same_reference ∙ c.add_submission.ensures.same_reference;
  goes =
      goes_then (g.B.Batch.batch.state c.args.batch.now) (g.B.Batch.batch.state c.add_submission.new.tx) (g.B.Batch.batch.state c.count_submissions.new.tx) _ c.count_submissions.result c.in_ok-add_submission.ensures.goes c.count_submissions.ensures.goes;
  shows = λ clean inside counts v shows last.
      let early = earlier (g.B.Batch.batch.state c.add_submission.new.tx) _ c.count_submissions.ensures.goes.survives clean in
      let first = c.in_ok-add_submission.ensures in
      c.count_submissions.ensures.shows clean (first.goes.going early inside).1 counts _ (first.shows early inside counts v shows last) tt;
}

pub returns-in_err-add_submission : goal.returns-in_err-add_submission
returns-in_err-add_submission g c = record {
  same_reference = c.add_submission.ensures.same_reference;
  goes =
      goes_fault (g.B.Batch.batch.state c.args.batch.now) (g.B.Batch.batch.state c.add_submission.new.tx) _ c.from_residual.result c.from_residual.ensures.1 c.in_err-add_submission.ensures.goes;
  shows = λ clean inside counts v shows last.
      passed_on c.from_residual.result _ _ IsMemoryOrStore c.from_residual.ensures.1 (c.in_err-add_submission.ensures.shows clean inside counts v shows last);
}
