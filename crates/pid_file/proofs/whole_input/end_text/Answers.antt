use Rattle.std.proofs.lemmas.Result.{err_from_is_err_and}
use Rattle.pid_file.proofs.FrontEnds.{err_whole}
use Rattle.pid_file.proofs.whole_input.end_text.Goals as goal

pub returns-in_err-outcome : goal.returns-in_err-outcome
returns-in_err-outcome g c = record {
  ends = λ text start holds ends.
      let p = err_from_is_err_and c.from_residual.result c.from_residual.ensures.1 in
      rw p.1 (rw p.2 (err_whole g.K.Sink.takes g.K.Sink.faults c.in_err-outcome.field-0.0 start c.args.sink.now text (rw c.in_err-outcome.was at ends)));
}
