use Rattle.std.proofs.Common.{Err, refl, ap}
use Rattle.pid_file.proofs.Flushed.{map_some}
use Rattle.pid_file.proofs.InputTexts.{leaves_as, ok_no_fault, is_read_fault}
use Rattle.pid_file.proofs.Reported.{counted, counted_front, done_no_read_fault, done_no_write_fault, keeps_fault, no_read_fault, reported_checked}
use Rattle.pid_file.proofs.checking.check.Goals as goal

pub returns-in-Ok-write_ok : goal.returns-in-Ok-write_ok
returns-in-Ok-write_ok g c = record {
  checked = counted (g.I.Input.to_come c.args.input.now) c.in-Ok.count _ _ c.in-Ok.ensures.end c.in-Ok-write_ok.ensures.sent;
  write_fault = λ e. absurd (done_no_write_fault e);
  leaves = leaves_as g.I.Input _ _ _ _ _ (λ e. absurd (ok_no_fault _ e)) (λ e. absurd (done_no_read_fault e)) c.in-Ok.ensures.leaves;
}

pub returns-in-Err-write_ok : goal.returns-in-Err-write_ok
returns-in-Err-write_ok g c = record {
  checked = counted_front (g.I.Input.to_come c.args.input.now) c.in-Ok.count _ _ c.in-Ok.ensures.end c.in-Err-write_ok.ensures.sent;
  write_fault = λ e. rw c.in-Err-write_ok.ensures.fault refl;
  leaves = leaves_as g.I.Input _ _ _ _ _ (λ e. absurd (ok_no_fault _ e)) (λ e. absurd (no_read_fault e)) c.in-Ok.ensures.leaves;
}

pub returns-in-Err : goal.returns-in-Err
returns-in-Err g c =
    let report = c.report_unread.ensures in
    record {
      checked = map_some _ (λ text read. reported_checked c.report_unread.result text _ _ (report.told text read)) c.in-Err.ensures.end;
      write_fault = λ e. keeps_fault c.report_unread.result _ report.reports e;
      leaves = leaves_as g.I.Input _ _ _ _ _ (λ e. report.read_fault.1 (is_read_fault c.in-Err.end e)) (λ e. ap Err (report.read_fault.0 e)) c.in-Err.ensures.leaves;
    }
