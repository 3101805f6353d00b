use Rattle.std.proofs.Common.{[], refl}
use Rattle.std.proofs.lemmas.Result.{err_from_is_err_and}
use Rattle.pid_file.proofs.SendingLemmas.{Appends-nil, stopped}
use Rattle.pid_file.proofs.Written.{written_more, written_stop, written_all}
use Rattle.pid_file.proofs.print.write_canonical.Goals as goal

pub returns-in_err-write_header : goal.returns-in_err-write_header
returns-in_err-write_header g c =
    let p = err_from_is_err_and c.from_residual.result c.from_residual.ensures.1 in
    record {
      sent = rw p.1 (stopped _ _ _ [] _ _ _ (Appends-nil _) c.in_err-write_header.ensures.sent refl);
      fault = rw (p.1, p.2) c.in_err-write_header.ensures.fault;
    }

pub loop-path-preserved : goal.loop-path-preserved
loop-path-preserved g c =
    written_more _ _ _ _ _ _ _ (c.in-Some.path.now, c.in-Some.name.now) c.loop-path.invariant c.in-Some.ensures.steps (rw (← c.as_str.ensures.text) c.in_ok-write_after.ensures.sent)

pub returns-in_err-write_after : goal.returns-in_err-write_after
returns-in_err-write_after g c =
    let p = err_from_is_err_and c.from_residual-in_err-write_after.result c.from_residual-in_err-write_after.ensures.1 in
    record {
      sent = rw p.1 (written_stop _ _ _ _ _ _ _ (c.in-Some.path.now, c.in-Some.name.now) c.loop-path.invariant c.in-Some.ensures.steps (rw (← c.as_str.ensures.text) c.in_err-write_after.ensures.sent));
      fault = rw (p.1, p.2) c.in_err-write_after.ensures.fault;
    }

pub returns : goal.returns
returns g c = record {
  sent = written_all _ _ _ _ c.loop-path.path-iterator c.loop-path.invariant c.in-None.ensures.steps.0;
  fault = tt;
}
