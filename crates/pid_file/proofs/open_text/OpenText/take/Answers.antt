use Rattle.std.proofs.Common.{◌∙◌, sym, ap, ◌++◌, [], refl, inr, Err}
use Rattle.std.proofs.lemmas.List.{append-nil}
use Rattle.std.proofs.lemmas.Result.{err_from_is_err_and}
use Rattle.pid_file.specs.WholeLines.{whole_lines}
use Rattle.pid_file.proofs.Feeding.{starts, goes_on, stops, holds_rest, took_rest, extended}
use Rattle.pid_file.proofs.open_text.OpenText.take.Goals as goal

pub loop-front-init : goal.loop-front-init
loop-front-init g c text h = starts g.S.Sink.takes c.args.sink.now c.args.piece.now c.args.self.now text h

pub loop-front-preserved : goal.loop-front-preserved
loop-front-preserved g c text h =
    let half = c.loop-front.invariant text h in
    goes_on g.S.Sink.takes c.args.sink.now c.args.piece.now c.loop-front.rest.now c.in-Some.front.now c.in-Some.behind.now c.loop-front.self c.end_line.new.self c.loop-front.sink c.end_line.new.sink text half c.in-Some.ensures.parts.0 c.in-Some.ensures.parts.1 (c.in_ok-end_line.ensures.holds (text ++ half.gone) half.holds) (c.in_ok-end_line.ensures.ends (text ++ half.gone) half.holds)

pub returns-in_err-end_line-clause-ends : goal.returns-in_err-end_line-clause-ends
returns-in_err-end_line-clause-ends g c text start h took =
    let half = c.loop-front.invariant text h in
    let p = err_from_is_err_and c.from_residual.result c.from_residual.ensures.1 in
    stops g.S.Sink.takes g.S.Sink.faults c.from_residual.result c.in_err-end_line.field-0.0 c.args.sink.now c.args.piece.now c.loop-front.rest.now c.in-Some.front.now c.in-Some.behind.now c.loop-front.self c.loop-front.sink c.end_line.new.sink text half (p.1 ∙ ap Err p.2) c.in-Some.ensures.parts.0 c.in-Some.ensures.parts.1 (c.in_err-end_line.ensures.ends (text ++ half.gone) half.holds) start took

pub returns-then-is_err-clause-ends : goal.returns-then-is_err-clause-ends
returns-then-is_err-clause-ends g c text start h took =
    let rest = took_rest g.S.Sink.takes c.args.sink.now c.args.piece.now c.loop-front.rest.now c.loop-front.self c.loop-front.sink text (c.loop-front.invariant text h) c.in_default.ensures.parts start took in
    inr (refl, record { front = whole_lines (text ++ c.args.piece.now); after = []; parts = sym (append-nil (whole_lines (text ++ c.args.piece.now))); good = rest.0; took = rest.1 })

pub returns-clause-holds : goal.returns-clause-holds
returns-clause-holds g c text h =
    holds_rest g.S.Sink.takes c.args.sink.now c.args.piece.now c.loop-front.rest.now c.loop-front.self _ c.loop-front.sink text (c.loop-front.invariant text h) c.in_default.ensures.parts refl
    (extended c.extend_from_slice.result _ (c.loop-front.self.line.items ++ c.loop-front.rest.now) _ c.extend_from_slice.ensures.items (sym c.is_err.ensures.value ∙ c.if-is_err.false))

pub returns-clause-ends : goal.returns-clause-ends
returns-clause-ends g c text start h took = took_rest g.S.Sink.takes c.args.sink.now c.args.piece.now c.loop-front.rest.now c.loop-front.self c.loop-front.sink text (c.loop-front.invariant text h) c.in_default.ensures.parts start took
