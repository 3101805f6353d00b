use Rattle.std.proofs.Common.{Err, inl, inr, refl, ap}
use Rattle.pid_file.proofs.Flushed.{map_some}
use Rattle.pid_file.proofs.InputTexts.{leaves_as, ok_no_fault, is_read_fault}
use Rattle.pid_file.proofs.Reported.{done_no_read_fault, done_no_write_fault, Keeps-itself, keeps_fault, no_read_fault, nothing_printed, reported_tidied, tidied}
use Rattle.pid_file.proofs.tidying.tidy.Goals as goal

pub returns-in-Ok-printed : goal.returns-in-Ok-printed
returns-in-Ok-printed g c = record {
  tidied = tidied (g.I.Input.to_come c.args.input.now) c.in-Ok.tree _ c.in-Ok.ensures.end c.in-Ok-printed.ensures.sent (Keeps-itself _);
  write_fault = λ e. absurd (done_no_write_fault e);
  nothing_printed = tt;
  leaves = leaves_as g.I.Input _ _ _ _ _ (λ e. absurd (ok_no_fault _ e)) (λ e. absurd (done_no_read_fault e)) c.in-Ok.ensures.leaves;
}

pub returns-in-Err-printed : goal.returns-in-Err-printed
returns-in-Err-printed g c = record {
  tidied = map_some _ (λ text read. inl (record { tree = c.in-Ok.tree; reads = record { short = read.0; good = read.1; reads = read.2 }; printed = c.in-Err-printed.ensures.sent; nothing_reported = Keeps-itself _ })) c.in-Ok.ensures.end;
  write_fault = λ e. inl (rw c.in-Err-printed.ensures.fault refl);
  nothing_printed = tt;
  leaves = leaves_as g.I.Input _ _ _ _ _ (λ e. absurd (ok_no_fault _ e)) (λ e. absurd (no_read_fault e)) c.in-Ok.ensures.leaves;
}

pub returns-in-Err : goal.returns-in-Err
returns-in-Err g c =
    let report = c.report_unread.ensures in
    record {
      tidied = map_some _ (λ text read. reported_tidied c.report_unread.result text _ (Keeps-itself _) (report.told text read)) c.in-Err.ensures.end;
      write_fault = λ e. inr (keeps_fault c.report_unread.result _ report.reports e);
      nothing_printed = nothing_printed c.report_unread.result _ _ (Keeps-itself _);
      leaves = leaves_as g.I.Input _ _ _ _ _ (λ e. report.read_fault.1 (is_read_fault c.in-Err.end e)) (λ e. ap Err (report.read_fault.0 e)) c.in-Err.ensures.leaves;
    }
