use Rattle.std.proofs.Common.{◌<◌, length, arith}
use Rattle.std.proofs.lemmas.Bool.Decides.{nat_tests}
use Rattle.std.proofs.lemmas.Result.{err_from_is_err_and}
use Rattle.pid_file.proofs.SendingLemmas.{sent_more, sent_less}
use Rattle.pid_file.proofs.writing.write_all.Goals as goal

pub loop-rest-preserved : goal.loop-rest-preserved
loop-rest-preserved g c = sent_more _ _ _ _ _ _ _ c.loop-rest.invariant c.in_ok-count.ensures.bytes c.split_at.ensures.back

pub returns-in_err-count : goal.returns-in_err-count
returns-in_err-count g c =
    let p = err_from_is_err_and c.from_residual.result c.from_residual.ensures.1 in
    let some : 0 < length c.loop-rest.rest.now = grind (arith, nat_tests, c.is_empty.ensures, c.loop-rest-test.true) in
    record {
      sent = rw p.1 (sent_less _ _ _ _ _ c.loop-rest.invariant some c.in_err-count.ensures.bytes);
      fault = rw (p.1, p.2) c.in_err-count.ensures.fault;
    }
