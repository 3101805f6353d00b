use Rattle.std.proofs.Common.{ap, rules, sym, inl, inr, ◌∙◌}
use Rattle.std.specs.Io.Buffered.{writer_contents}
use Rattle.pid_cli_jobs.specs.Lines.{exit_status}
use Rattle.pid_cli.proofs.Exports.{kept_through, not_exited}
use Rattle.pid_cli.proofs.exporting.export.Goals as goal
use Rattle.pid_cli.proofs.exporting.export.Goals.{in-Exited-eq0-Err, in_default, in_default-2, in_default-3}

pub returns : goal.returns
returns g c = record {
  empty = c.new-output.result;
  filled = c.print_all-end.new.output;
  into = c.print_all-end.result;
  exports = c.print_all-end.ensures;
  begins = ap (writer_contents g.O.Write.contents) c.new-output.ensures.wraps;
  ends = elim c.match-end.branch [
    | in-Exited-eq0-Err w ↦ inr (search rules, w.end-is)
    | in_default w ↦ inl w.end-is
    | in_default-2 w ↦ inl w.end-is
    | in_default-3 w ↦ inl w.end-is
  ];
  sent = λ done. elim c.match-end.branch [
    | in-Exited-eq0-Err w ↦ absurd (not_exited 0 (sym w.end-is ∙ done))
    | in_default w ↦ kept_through g.O.Write.contents c.print_all-end.new.output.inner c.into_inner-buffer.result
        c.flush.new.self c.into_parts-output.result.0 c.into_inner-buffer.ensures w.in_default.ensures.ok
        c.into_parts-output.ensures.inner w.in_default.ensures.bytes
    | in_default-2 w ↦ absurd (w.in_default.field-0-0-test.1
        (ap exit_status (sym w.in_default.is-0 ∙ sym w.end-is ∙ done)))
    | in_default-3 w ↦ absurd (w.in_default.not-Exited-0 0 (sym w.end-is ∙ done))
  ];
}
