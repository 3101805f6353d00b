use Rattle.std.proofs.Common.{◌++◌}
use Rattle.std.proofs.lemmas.Result.{err_from_is_err_and}
use Rattle.pid_file.proofs.FrontEnds.{reads_on, ends_read}
use Rattle.pid_reader.proofs.skipping.skip_input.Goals as goal

pub returns-in_err-piece-clause-read : goal.returns-in_err-piece-clause-read
returns-in_err-piece-clause-read g c =
    let front = c.loop-piece.invariant.0 in
    let read = c.loop-piece.invariant.1 in
    let p = err_from_is_err_and c.from_residual.result c.from_residual.ensures.1 in
    let ends = ends_read _ _ _ _ _ front c.in_err-piece.field-0.0 read c.in_err-piece.ensures.failed in
    (front ++ ends.more, ends.consumed, rw p.1 (rw p.2 ends.skips))

pub returns-in_err-piece-clause-stops : goal.returns-in_err-piece-clause-stops
returns-in_err-piece-clause-stops g c =
    let front = c.loop-piece.invariant.0 in
    let read = c.loop-piece.invariant.1 in
    let ends = ends_read _ _ _ _ _ front c.in_err-piece.field-0.0 read c.in_err-piece.ensures.failed in
    (front ++ ends.more, ends.consumed, ends.short)

pub loop-piece-preserved : goal.loop-piece-preserved
loop-piece-preserved g c =
    let piece = rw c.in-Some.is at c.in_ok-piece.ensures.piece in
    (c.loop-piece.invariant.0 ++ c.in-Some.piece.now, reads_on _ _ _ _ _ _ _ c.loop-piece.invariant.1 piece.consumed piece.short, g.met.I.Input.joins _ _ _ c.loop-piece.invariant.2 c.in_ok-piece.ensures.goes)
