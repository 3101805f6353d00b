use Rattle.std.proofs.Common.{refl, sym, ap, subst, ◌∙◌, IfSome}
use Rattle.std.specs.Io.Buffered.{writer_contents}
use Rattle.pid_file.specs.ExitStatuses.{GotTidied}
use Rattle.pid_file.specs.TextEnds.{status_of}
use Rattle.pid_file.specs.Tidied.{IsTidied, Writers}
use Rattle.pid_file.proofs.Flushed.{all_some, got_nothing, got_same, got_tidied, map_some, through}
use Rattle.pid_file.proofs.process.run_tidy.Goals as goal
use Rattle.pid_file.proofs.process.run_tidy.Goals.{in-Ok-flush, in-Err}

pub returns-clause-wrote : goal.returns-clause-wrote
returns-clause-wrote g c =
    let input = g.I.Read.remaining c.args.input in
    let kept : Writers = record {
      output = writer_contents (λ w. g.O.Write.contents w.inner) c.new-output.result.inner;
      output_after = writer_contents (λ w. g.O.Write.contents w.inner) c.tidy-end.new.output.inner;
      faults = g.F.Write.contents c.new-faults.result.inner;
      faults_after = g.F.Write.contents c.tidy-end.new.faults.inner;
    } in
    let wrote : Writers = record {
      output = g.O.Write.contents c.args.output;
      output_after = g.O.Write.contents c.into_inner-output.result;
      faults = g.F.Write.contents c.args.faults;
      faults_after = g.F.Write.contents c.into_inner-faults.result;
    } in
    let tidied : IfSome input (λ text. IsTidied c.tidy-end.result text kept) = subst (λ x. IfSome (g.I.Read.remaining x) (λ text. IsTidied c.tidy-end.result text kept)) c.new-input.ensures.wraps c.tidy-end.ensures.tidied in
    map_some input (λ text t. elim c.match-flush.branch [
      | in-Ok-flush w ↦ subst (λ s. GotTidied text s wrote) (sym (c.status-status.ensures.status ∙ ap status_of w.end-is))
          (got_tidied c.tidy-end.result text kept wrote t
          (through g.O.Write.contents c.args.output c.into_inner-output.result c.new.result c.into_parts-watched.result.0 c.new-output.result.inner c.in-Ok.buffer c.tidy-end.new.output.inner c.into_inner-buffer.result c.flush.new.self
          c.new-output.ensures.wraps c.in-Ok.ensures.inner c.in-Ok.ensures.empty c.new.ensures.inner
          c.into_inner-buffer.ensures w.in-Ok-flush.ensures.ok c.into_parts-watched.ensures.inner c.into_inner-output.ensures
          w.in-Ok-flush.ensures.bytes)
          (λ good. got_same kept.faults kept.faults_after wrote.faults wrote.faults_after (ap g.F.Write.contents (sym c.new-faults.ensures.wraps))
          (ap g.F.Write.contents c.into_inner-faults.ensures ∙ c.status-status.ensures.silent (λ three. good (ap status_of (sym w.end-is) ∙ three)))))
      | in-Err w ↦ got_nothing text c.status-status.result wrote (c.status-status.ensures.status ∙ ap status_of w.end-is)
    ]) tidied

pub returns-clause-handed_back : goal.returns-clause-handed_back
returns-clause-handed_back g c _ = refl

pub returns-in_default-clause-wrote : goal.returns-in_default-clause-wrote
returns-in_default-clause-wrote g c = all_some (g.I.Read.remaining c.args.input) (λ text. got_nothing text c.report_text_end-status.result _ c.report_text_end-status.ensures.status)

pub returns-in_default-clause-handed_back : goal.returns-in_default-clause-handed_back
returns-in_default-clause-handed_back g c unlike = absurd (unlike c.report_text_end-status.ensures.status)
