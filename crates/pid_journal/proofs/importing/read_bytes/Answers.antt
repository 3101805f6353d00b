use Rattle.std.proofs.Common.{◌++◌}
use Rattle.std.proofs.lemmas.Result.{err_from_is_err_and}
use Rattle.pid_file.proofs.FrontEnds.{ends_read, reads_on}
use Rattle.pid_journal.proofs.Imported.{kept_on}
use Rattle.pid_journal.proofs.importing.read_bytes.Goals as goal

pub returns-in_err-piece-clause-read : goal.returns-in_err-piece-clause-read
returns-in_err-piece-clause-read g c =
    let front = c.loop-kept.invariant.0 in
    let read = c.loop-kept.invariant.1 in
    let p = err_from_is_err_and c.from_residual.result c.from_residual.ensures.1 in
    let ends = ends_read _ _ _ _ _ front c.in_err-piece.field-0.0 read c.in_err-piece.ensures.failed in
    (front ++ ends.more, ends.consumed, rw p.1 (rw p.2 ends.skips), rw p.1 tt)

pub loop-kept-preserved : goal.loop-kept-preserved
loop-kept-preserved g c =
    let piece = rw c.in-Some.is at c.in_ok-piece.ensures.piece in
    let inv = c.loop-kept.invariant in (
      inv.0 ++ c.in-Some.piece.now,
      reads_on _ _ _ _ _ _ _ inv.1 piece.consumed piece.short,
      g.met.I.Input.joins _ _ _ inv.2 c.in_ok-piece.ensures.goes,
      kept_on c.loop-kept.kept c.longer-kept.result inv.0 c.in-Some.piece.now (λ v. v.items) inv.3 c.longer-kept.ensures,
    )
