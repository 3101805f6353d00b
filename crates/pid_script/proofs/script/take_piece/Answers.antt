use Rattle.std.proofs.Common.{◌++◌}
use Rattle.pid_script.specs.Steps.Output.{out}
use Rattle.pid_script.proofs.Pieces.{half_start, half_stop, half_more, half_whole, half_kept_on, half_unfit, nothing_left, something_left, piece_flushed_on, piece_broken_on}
use Rattle.pid_script.proofs.Asked.{unfit_fault}
use Rattle.pid_script.proofs.Calling.{go_then}
use Rattle.pid_script.proofs.SayLemmas.{sends_empty, sends_fault}
use Rattle.pid_script.proofs.script.take_piece.Goals as goal

pub loop-front-init : goal.loop-front-init
loop-front-init g c = half_start g.R.RegistryCalls c.args.piece.now c.args.registry.now (out g.O.Output c.args.output.now c.args.held.now.items) c.args.kept.now.items

pub loop-front-preserved : goal.loop-front-preserved
loop-front-preserved g c =
    half_more g.R.RegistryCalls _ c.args.piece.now c.loop-front.rest.now c.in-Some.front.now c.in-Some.behind.now c.args.registry.now c.loop-front.registry c.end_line.new.registry
    (out g.O.Output c.args.output.now c.args.held.now.items) (out g.O.Output c.loop-front.output c.loop-front.held.items) (out g.O.Output c.end_line.new.output c.end_line.new.held.items) c.args.kept.now.items c.loop-front.kept.items c.end_line.new.kept.items
    c.loop-front.invariant c.in-Some.ensures.parts.0 c.in-Some.ensures.parts.1 c.end_line.ensures.answers.calls.clean c.end_line.ensures.answers.calls c.in_default-end_line.ensures.empty c.in_default-end_line.ensures.answers.ends

pub returns-in-Err : goal.returns-in-Err
returns-in-Err g c = record {
  calls = go_then g.R.RegistryCalls.showing c.args.registry.now c.loop-front.registry c.end_line.new.registry c.loop-front.invariant.calls c.end_line.ensures.answers.calls;
  empty = tt;
  answered = λ honest h start first text stands a. tt;
  ended = half_stop g.R.RegistryCalls c.in-Err.end c.args.piece.now c.loop-front.rest.now c.in-Some.front.now c.in-Some.behind.now c.args.registry.now c.loop-front.registry c.end_line.new.registry
      (out g.O.Output c.args.output.now c.args.held.now.items) (out g.O.Output c.loop-front.output c.loop-front.held.items) (out g.O.Output c.end_line.new.output c.end_line.new.held.items) c.args.kept.now.items c.loop-front.kept.items
      c.loop-front.invariant c.in-Some.ensures.parts.0 c.in-Some.ensures.parts.1 c.end_line.ensures.answers.calls.clean c.in-Err.ensures.answers.ends;
  fault = c.in-Err.ensures.answers.fault;
}

pub returns-then-is_empty : goal.returns-then-is_empty
returns-then-is_empty g c = record {
  calls = c.loop-front.invariant.calls;
  empty = sends_empty c.flush.result _ (out g.O.Output c.loop-front.output c.loop-front.held.items) (out g.O.Output c.flush.new.output c.flush.new.held.items) c.flush.ensures;
  answered = λ honest h start first text stands a.
      let old = out g.O.Output c.args.output.now c.args.held.now.items in
      let now = out g.O.Output c.loop-front.output c.loop-front.held.items in
      piece_flushed_on g.R.RegistryCalls c.flush.result h start first c.loop-front.registry now (out g.O.Output c.flush.new.output c.flush.new.held.items) c.loop-front.kept.items (text ++ c.args.piece.now)
      (half_whole g.R.RegistryCalls c.args.piece.now c.loop-front.rest.now c.args.registry.now c.loop-front.registry old now c.args.kept.now.items c.loop-front.kept.items
      c.loop-front.invariant (nothing_left c.loop-front.rest.now c.if-is_empty.ensures) honest h start first text stands a) c.flush.ensures;
  ended = λ honest h start first text more stands a.
      let old = out g.O.Output c.args.output.now c.args.held.now.items in
      let now = out g.O.Output c.loop-front.output c.loop-front.held.items in
      piece_broken_on g.R.RegistryCalls c.flush.result h start first c.loop-front.registry now (out g.O.Output c.flush.new.output c.flush.new.held.items) c.loop-front.kept.items (text ++ c.args.piece.now) more
      (half_whole g.R.RegistryCalls c.args.piece.now c.loop-front.rest.now c.args.registry.now c.loop-front.registry old now c.args.kept.now.items c.loop-front.kept.items
      c.loop-front.invariant (nothing_left c.loop-front.rest.now c.if-is_empty.ensures) honest h start first text stands a) c.flush.ensures;
  fault = sends_fault c.flush.result _ (out g.O.Output c.loop-front.output c.loop-front.held.items) (out g.O.Output c.flush.new.output c.flush.new.held.items) c.flush.ensures;
}

pub returns-in-Err-keep : goal.returns-in-Err-keep
returns-in-Err-keep g c = record {
  calls = c.loop-front.invariant.calls;
  empty = tt;
  answered = λ honest h start first text stands a. tt;
  ended = half_unfit g.R.RegistryCalls c.in-Err-keep.end c.args.piece.now c.loop-front.rest.now c.args.registry.now c.loop-front.registry (out g.O.Output c.args.output.now c.args.held.now.items) (out g.O.Output c.loop-front.output c.loop-front.held.items) (out g.O.Output c.keep.new.output c.keep.new.held.items) c.args.kept.now.items c.loop-front.kept.items
      c.loop-front.invariant c.in_default.ensures.parts (something_left c.loop-front.rest.now c.if-is_empty.ensures) c.in-Err-keep.ensures.unfit;
  fault = unfit_fault c.in-Err-keep.end _ _ _ c.in-Err-keep.ensures.unfit;
}

pub returns : goal.returns
returns g c = record {
  calls = c.loop-front.invariant.calls;
  empty = sends_empty c.flush-2.result _ (out g.O.Output c.keep.new.output c.keep.new.held.items) (out g.O.Output c.flush-2.new.output c.flush-2.new.held.items) c.flush-2.ensures;
  answered = λ honest h start first text stands a.
      piece_flushed_on g.R.RegistryCalls c.flush-2.result h start first c.loop-front.registry (out g.O.Output c.keep.new.output c.keep.new.held.items) (out g.O.Output c.flush-2.new.output c.flush-2.new.held.items) c.keep.new.kept.items (text ++ c.args.piece.now)
      (half_kept_on g.R.RegistryCalls g.O.Output c.args.piece.now c.loop-front.rest.now c.args.registry.now c.loop-front.registry (out g.O.Output c.args.output.now c.args.held.now.items) c.loop-front.output c.keep.new.output c.loop-front.held.items c.keep.new.held.items c.args.kept.now.items c.loop-front.kept.items c.keep.new.kept.items
      c.loop-front.invariant c.in_default.ensures.parts c.in_default-keep.ensures.kept c.in_default-keep.ensures.short c.in_default-keep.ensures.silent c.in_default-keep.ensures.still honest h start first text stands a) c.flush-2.ensures;
  ended = λ honest h start first text more stands a.
      piece_broken_on g.R.RegistryCalls c.flush-2.result h start first c.loop-front.registry (out g.O.Output c.keep.new.output c.keep.new.held.items) (out g.O.Output c.flush-2.new.output c.flush-2.new.held.items) c.keep.new.kept.items (text ++ c.args.piece.now) more
      (half_kept_on g.R.RegistryCalls g.O.Output c.args.piece.now c.loop-front.rest.now c.args.registry.now c.loop-front.registry (out g.O.Output c.args.output.now c.args.held.now.items) c.loop-front.output c.keep.new.output c.loop-front.held.items c.keep.new.held.items c.args.kept.now.items c.loop-front.kept.items c.keep.new.kept.items
      c.loop-front.invariant c.in_default.ensures.parts c.in_default-keep.ensures.kept c.in_default-keep.ensures.short c.in_default-keep.ensures.silent c.in_default-keep.ensures.still honest h start first text stands a) c.flush-2.ensures;
  fault = sends_fault c.flush-2.result _ (out g.O.Output c.keep.new.output c.keep.new.held.items) (out g.O.Output c.flush-2.new.output c.flush-2.new.held.items) c.flush-2.ensures;
}
