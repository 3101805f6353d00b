use Rattle.std.proofs.lemmas.Result.{err_from_is_err_and}
use Rattle.pid_file.proofs.SendingLemmas.{stopped, flat_map-split}
use Rattle.pid_file.proofs.writing.write_parts.Goals as goal

pub returns-in_err-write_all : goal.returns-in_err-write_all
returns-in_err-write_all g c =
    let p = err_from_is_err_and c.from_residual.result c.from_residual.ensures.1 in
    record {
      sent = rw p.1 (stopped _ _ _ _ _ _ _ c.loop-part.invariant c.in_err-write_all.ensures.sent (flat_map-split (λ part. part.now) c.args.parts.now c.loop-part.part-index _ c.loop-part-test.true));
      fault = rw (p.1, p.2) c.in_err-write_all.ensures.fault;
    }
