use Rattle.std.proofs.lemmas.Result.{err_from_is_err_and}
use Rattle.pid_file.proofs.FrontEnds.{err_more}
use Rattle.pid_file.proofs.whole_input.take_next.Goals as goal

pub returns-in_err-outcome-clause-ends : goal.returns-in_err-outcome-clause-ends
returns-in_err-outcome-clause-ends g c text start holds ends =
    let p = err_from_is_err_and c.from_residual.result c.from_residual.ensures.1 in
    rw p.1 (rw p.2 (err_more g.K.Sink.takes g.K.Sink.faults c.in_err-outcome.field-0.0 start c.args.sink.now text c.args.piece.now (rw c.in_err-outcome.was at ends)))
