use Rattle.std.proofs.Common.{◌++◌, [], Ok, Err, refl, ap, ◌∙◌}
use mathlib.Core.Bool.{true≢false}
use Rattle.std.specs.Prelude.{is_ok}
use Rattle.std.proofs.lemmas.Result.{err_from_is_err_and}
use Rattle.pid_file.proofs.FrontEnds.{starts_read, reads_on, ends_read, given_up, cuts_by, whole_read, same_end, fault_cause, cause_fault, cut_no_fault}
use Rattle.pid_file.specs.declared.whole_input.SkipEnd.{SkipEnd}
use Rattle.pid_file.proofs.whole_input.cut_input.Goals as goal

pub loop-outcome-init : goal.loop-outcome-init
loop-outcome-init g c = ([], starts_read _ c.args.limit, record { holds = c.new-text.ensures; ends = (refl, refl) }, g.met.I.Input.stays _)

pub loop-outcome-preserved : goal.loop-outcome-preserved
loop-outcome-preserved g c =
    let front = c.loop-outcome.invariant.0 in
    let read = c.loop-outcome.invariant.1 in
    let fed = c.loop-outcome.invariant.2 in
    let piece = rw c.in-Some.is at c.in_ok-piece.ensures.piece in (
      front ++ c.in-Some.piece.now,
      reads_on _ _ _ _ _ _ _ read piece.consumed piece.short,
      record { holds = c.take_next-outcome.ensures.holds front fed.holds; ends = c.take_next-outcome.ensures.ends front c.args.sink.now fed.holds fed.ends },
      g.met.I.Input.joins _ _ _ c.loop-outcome.invariant.3 c.in_ok-piece.ensures.goes,
    )

pub returns-in_err-piece : goal.returns-in_err-piece
returns-in_err-piece g c =
    let front = c.loop-outcome.invariant.0 in
    let read = c.loop-outcome.invariant.1 in
    let fed = c.loop-outcome.invariant.2 in
    let p = err_from_is_err_and c.from_residual.result c.from_residual.ensures.1 in
    let is = p.1 ∙ ap (λ y. Err y) p.2 in
    let ends = ends_read _ _ _ _ _ front c.in_err-piece.field-0.0 read c.in_err-piece.ensures.failed in
    let took = given_up g.K.Sink.takes g.K.Sink.faults c.loop-outcome.outcome c.args.sink.now c.loop-outcome.sink front ends.more fed.ends in
    record {
      read = (front ++ ends.more, ends.consumed, rw p.1 (rw p.2 (cuts_by g.K.Sink.takes g.K.Sink.faults c.args.limit c.in_err-piece.field-0.0 _ _ c.args.sink.now c.loop-outcome.sink ends.skips took)));
      leaves = record {
        stops = (front ++ ends.more, ends.consumed, ends.short);
        fault = λ faulted. c.in_err-piece.ensures.fault.0 (ap (λ (s : SkipEnd). Err s) (fault_cause c.from_residual.result c.in_err-piece.field-0.0 is faulted));
        fault_first = λ some. cause_fault c.from_residual.result c.in_err-piece.field-0.0 is (same_end _ c.in_err-piece.field-0.0 refl (c.in_err-piece.ensures.fault.1 some));
        goes = g.met.I.Input.joins _ _ _ c.loop-outcome.invariant.3 c.in_err-piece.ensures.goes;
      };
    }

pub returns-in-Ok : goal.returns-in-Ok
returns-in-Ok g c =
    let front = c.loop-outcome.invariant.0 in
    let fed = c.loop-outcome.invariant.2 in
    let all = whole_read _ _ _ _ _ front c.loop-outcome.invariant.1 (c.in_ok-piece.ensures.end (ap (λ o. Ok o) c.in_default.is)) in
    record {
      read = (front, all.consumed, (all.whole, c.in-Ok.ensures.ends front c.args.sink.now fed.holds fed.ends));
      leaves = record {
        stops = (front, all.consumed, all.short);
        fault = λ faulted. absurd (true≢false (ap is_ok faulted));
        fault_first = λ some. absurd (true≢false (ap is_ok (c.in_ok-piece.ensures.fault.1 some)));
        goes = g.met.I.Input.joins _ _ _ c.loop-outcome.invariant.3 c.in_ok-piece.ensures.goes;
      };
    }

pub returns-in-Err : goal.returns-in-Err
returns-in-Err g c =
    let front = c.loop-outcome.invariant.0 in
    let fed = c.loop-outcome.invariant.2 in
    let all = whole_read _ _ _ _ _ front c.loop-outcome.invariant.1 (c.in_ok-piece.ensures.end (ap (λ o. Ok o) c.in_default.is)) in
    record {
      read = (front, all.consumed, (all.whole, c.in-Err.ensures.ends front c.args.sink.now fed.holds fed.ends));
      leaves = record {
        stops = (front, all.consumed, all.short);
        fault = λ faulted. absurd (cut_no_fault _ c.in-Err.end refl faulted);
        fault_first = λ some. absurd (true≢false (ap is_ok (c.in_ok-piece.ensures.fault.1 some)));
        goes = g.met.I.Input.joins _ _ _ c.loop-outcome.invariant.3 c.in_ok-piece.ensures.goes;
      };
    }
