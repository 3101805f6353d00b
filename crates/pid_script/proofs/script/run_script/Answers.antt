use Rattle.std.proofs.Common.{◌≡◌, ℕ, List, length, take, Err, sym, ◌∙◌, subst, rules, IfSome}
use Rattle.pid_script.specs.Steps.Progress.{HasAnswered}
use Rattle.pid_script.specs.Steps.Output.{out}
use Rattle.pid_script.specs.Scripts.{passage, IsScript}
use Rattle.pid_script.proofs.CatchingUp.{unread, read_then, calls_then}
use Rattle.pid_script.proofs.Noting.{none_noted, more_noted}
use Rattle.pid_script.proofs.ReadLemmas.{none_read, read_more, cut_off, turns_over, all_read, ended, ended_by, not_spent, consumed_none, piece_fits, piece_some, last_read, last_turn, read_failed, no_turn, has_room, all_made}
use Rattle.pid_script.proofs.Calling.{go_then}
use Rattle.pid_script.proofs.script.run_script.Goals as goal

pub loop-turn-init : goal.loop-turn-init
loop-turn-init g c = (none_read g.R.RegistryCalls c.args.registry.now (out g.O.Output c.args.output.now c.new-held.result.items) (g.I.Incoming.to_come c.args.input.now) (g.I.Incoming.reads c.args.input.now) c.new-kept.result.items c.new-held.ensures.items c.new-kept.ensures.items, (g.met.I.Incoming.stays _, (unread g.R.RegistryCalls c.args.registry.now (g.O.Output.taken c.args.output.now) (g.I.Incoming.to_come c.args.input.now) (g.I.Incoming.moments c.args.input.now), ((no_turn, none_noted (g.I.Incoming.moments c.args.input.now)), search rules))))

pub loop-turn-preserved : goal.loop-turn-preserved
loop-turn-preserved g c = (
  read_more g.R.RegistryCalls c.args.registry.now c.loop-turn.registry c.take_piece.new.registry
      (g.O.Output.taken c.args.output.now) (out g.O.Output c.loop-turn.output c.loop-turn.held.items) (out g.O.Output c.take_piece.new.output c.take_piece.new.held.items)
      (g.I.Incoming.to_come c.args.input.now) (g.I.Incoming.to_come c.loop-turn.input) (g.I.Incoming.to_come c.read_after.new.self)
      c.loop-turn.kept.items c.take_piece.new.kept.items (take c.in-Ok.count c.read_after.new.buffer)
      (g.I.Incoming.reads c.args.input.now) (g.I.Incoming.reads c.loop-turn.input) (g.I.Incoming.reads c.read_after.new.self) c.loop-turn._turn
      c.loop-turn.invariant.0 c.in-Ok.ensures.bytes.0 (piece_fits c.in-Ok.count c.read_after.new.buffer (c.read_after.auto.buffer ∙ c.loop-turn.invariant.1.1.1.1)) (piece_some c.in-Ok.count c.read_after.new.buffer c.if-count-eq0.false c.in-Ok.ensures.room) c.read_after.ensures.count c.take_piece.ensures.calls.clean c.take_piece.ensures.calls c.in_default-take_piece.ensures.empty c.in_default-take_piece.ensures.answered,
  (
    g.met.I.Incoming.joins _ _ _ c.loop-turn.invariant.1.0 c.read_after.ensures.goes,
    (
      calls_then g.R.RegistryCalls c.args.registry.now c.loop-turn.registry c.take_piece.new.registry (g.O.Output.taken c.args.output.now) (g.O.Output.taken c.loop-turn.output) (g.O.Output.taken c.take_piece.new.output) (g.I.Incoming.to_come c.args.input.now) (g.I.Incoming.moments c.args.input.now) (g.I.Incoming.moments c.read_after.new.self) c.take_piece.ensures.calls
          (read_then g.R.RegistryCalls c.args.registry.now c.loop-turn.registry (g.O.Output.taken c.args.output.now) (g.I.Incoming.to_come c.args.input.now) (g.I.Incoming.to_come c.loop-turn.input) (out g.O.Output c.loop-turn.output c.loop-turn.held.items) c.loop-turn.kept.items (g.I.Incoming.reads c.args.input.now) (g.I.Incoming.reads c.loop-turn.input) c.loop-turn._turn (g.I.Incoming.moments c.args.input.now) (g.I.Incoming.moments c.loop-turn.input) (g.I.Incoming.moments c.read_after.new.self) c.loop-turn.invariant.0 c.loop-turn.invariant.1.1.0 c.read_after.ensures.noted),
      (
        (
          λ some. c.in-Ok.ensures.fault,
          more_noted c.loop-turn._turn (g.I.Incoming.to_come c.loop-turn.input) (g.I.Incoming.to_come c.read_after.new.self) (g.O.Output.taken c.loop-turn.output) (take c.in-Ok.count c.read_after.new.buffer) (g.I.Incoming.moments c.args.input.now) (g.I.Incoming.moments c.loop-turn.input) (g.I.Incoming.moments c.read_after.new.self)
              c.in-Ok.ensures.bytes.0 (piece_some c.in-Ok.count c.read_after.new.buffer c.if-count-eq0.false c.in-Ok.ensures.room) c.loop-turn.invariant.1.1.1.0.1 c.read_after.ensures.noted,
        ),
        c.read_after.auto.buffer ∙ c.loop-turn.invariant.1.1.1.1,
      ),
    ),
  ),
)

pub returns-in_default-clause-script : goal.returns-in_default-clause-script
returns-in_default-clause-script g c = λ honest h stands.
    cut_off g.R.RegistryCalls h (g.O.Output.taken c.args.output.now) c.args.registry.now c.loop-turn.registry (out g.O.Output c.loop-turn.output c.loop-turn.held.items) c.loop-turn.kept.items c.loop-turn.invariant.0.front (g.I.Incoming.to_come c.args.input.now) (g.I.Incoming.to_come c.loop-turn.input) (g.I.Incoming.to_come c.read_after.new.self)
    c.loop-turn.invariant.0.consumed c.in_default.ensures.bytes c.loop-turn.invariant.0.empty (c.loop-turn.invariant.0.answered honest h stands)

pub returns-in_default-clause-ended : goal.returns-in_default-clause-ended
returns-in_default-clause-ended g c =
    read_failed _ _ c.loop-turn._turn (g.I.Incoming.reads c.loop-turn.input) (g.I.Incoming.to_come c.loop-turn.input) (g.O.Output.taken c.loop-turn.output) (g.I.Incoming.moments c.loop-turn.input) c.loop-turn.invariant.0.front c.in_default.ensures.fault c.loop-turn-test.true c.loop-turn.invariant.0.counted c.read_after.ensures.count c.loop-turn.invariant.0.consumed c.loop-turn.invariant.0.bounded c.loop-turn.invariant.0.some c.in_default.ensures.bytes c.loop-turn.invariant.1.1.1.0.1 c.read_after.ensures.noted

pub returns-in_default-clause-goes : goal.returns-in_default-clause-goes
returns-in_default-clause-goes g c = g.met.I.Incoming.joins _ _ _ c.loop-turn.invariant.1.0 c.read_after.ensures.goes

pub returns-then-count-eq0-clause-script : goal.returns-then-count-eq0-clause-script
returns-then-count-eq0-clause-script g c = λ honest h stands.
    let whole : length c.read_after.new.buffer ≡ 65536 = c.read_after.auto.buffer ∙ c.loop-turn.invariant.1.1.1.1 in
    let was = c.end_text.ensures.calls.clean honest in
    let new = g.I.Incoming.to_come c.read_after.new.self in
    let now = g.I.Incoming.to_come c.loop-turn.input in
    let taken = g.O.Output.taken c.args.output.now in
    let left = out g.O.Output c.end_text.new.output c.end_text.new.held.items in
    subst (λ e. IfSome (g.I.Incoming.to_come c.args.input.now) (λ text. IsScript g.R.RegistryCalls e h (passage c.args.registry.now c.end_text.new.registry taken (g.O.Output.taken c.end_text.new.output)) text new)) (sym c.end_of.ensures)
    (all_read g.R.RegistryCalls c.end_text.result h taken c.args.registry.now c.end_text.new.registry left c.loop-turn.invariant.0.front (g.I.Incoming.to_come c.args.input.now) now new
    c.loop-turn.invariant.0.consumed (consumed_none now new c.in-Ok.count c.read_after.new.buffer c.if-count-eq0.true c.in-Ok.ensures.bytes.0) (c.in-Ok.ensures.bytes.1 c.if-count-eq0.true (has_room c.read_after.new.buffer whole))
    (c.end_text.ensures.ends honest h taken c.args.registry.now c.loop-turn.invariant.0.front stands
    (subst (λ (l : List ℕ). HasAnswered g.R.RegistryCalls h taken c.args.registry.now c.loop-turn.registry (out g.O.Output c.loop-turn.output c.loop-turn.held.items) l c.loop-turn.invariant.0.front) (sym c.deref.ensures.value) (c.loop-turn.invariant.0.answered was h stands))))

pub returns-then-count-eq0-clause-ended : goal.returns-then-count-eq0-clause-ended
returns-then-count-eq0-clause-ended g c = let whole : length c.read_after.new.buffer ≡ 65536 = c.read_after.auto.buffer ∙ c.loop-turn.invariant.1.1.1.1 in
    ended_by c.end_text.result c.end_of.result _ c.end_of.ensures c.in-Ok.ensures.fault c.end_text.ensures.fault
    (last_read _ _ c.loop-turn._turn (g.I.Incoming.reads c.loop-turn.input) (g.I.Incoming.to_come c.loop-turn.input) (g.O.Output.taken c.loop-turn.output) (g.I.Incoming.moments c.loop-turn.input) c.loop-turn.invariant.0.front (take c.in-Ok.count c.read_after.new.buffer) c.loop-turn-test.true c.loop-turn.invariant.0.counted c.read_after.ensures.count c.loop-turn.invariant.0.consumed c.loop-turn.invariant.0.bounded c.loop-turn.invariant.0.some c.in-Ok.ensures.bytes.0 (piece_fits c.in-Ok.count c.read_after.new.buffer whole) c.loop-turn.invariant.1.1.1.0.1 c.read_after.ensures.noted (λ e. not_spent c.end_text.result (sym c.end_of.ensures ∙ e)))

pub returns-then-count-eq0-clause-goes : goal.returns-then-count-eq0-clause-goes
returns-then-count-eq0-clause-goes g c = g.met.I.Incoming.joins _ _ _ c.loop-turn.invariant.1.0 c.read_after.ensures.goes

pub returns-in-Err-clause-script : goal.returns-in-Err-clause-script
returns-in-Err-clause-script g c = λ honest h stands.
    let was = c.take_piece.ensures.calls.clean honest in
    let new = g.I.Incoming.to_come c.read_after.new.self in
    let now = g.I.Incoming.to_come c.loop-turn.input in
    let taken = g.O.Output.taken c.args.output.now in
    let left = out g.O.Output c.take_piece.new.output c.take_piece.new.held.items in
    subst (λ e. IfSome (g.I.Incoming.to_come c.args.input.now) (λ text. IsScript g.R.RegistryCalls e h (passage c.args.registry.now c.take_piece.new.registry taken (g.O.Output.taken c.take_piece.new.output)) text new)) (sym c.end_of-in-Err.ensures)
    (ended g.R.RegistryCalls c.in-Err.end h taken c.args.registry.now c.take_piece.new.registry left c.loop-turn.invariant.0.front (take c.in-Ok.count c.read_after.new.buffer) (g.I.Incoming.to_come c.args.input.now) now new
    c.loop-turn.invariant.0.consumed c.in-Ok.ensures.bytes.0
    (λ more. c.in-Err.ensures.ended honest h taken c.args.registry.now c.loop-turn.invariant.0.front more stands (c.loop-turn.invariant.0.answered was h stands)))

pub returns-in-Err-clause-ended : goal.returns-in-Err-clause-ended
returns-in-Err-clause-ended g c = let whole : length c.read_after.new.buffer ≡ 65536 = c.read_after.auto.buffer ∙ c.loop-turn.invariant.1.1.1.1 in
    ended_by (Err c.in-Err.end) c.end_of-in-Err.result _ c.end_of-in-Err.ensures c.in-Ok.ensures.fault c.in-Err.ensures.fault
    (last_read _ _ c.loop-turn._turn (g.I.Incoming.reads c.loop-turn.input) (g.I.Incoming.to_come c.loop-turn.input) (g.O.Output.taken c.loop-turn.output) (g.I.Incoming.moments c.loop-turn.input) c.loop-turn.invariant.0.front (take c.in-Ok.count c.read_after.new.buffer) c.loop-turn-test.true c.loop-turn.invariant.0.counted c.read_after.ensures.count c.loop-turn.invariant.0.consumed c.loop-turn.invariant.0.bounded c.loop-turn.invariant.0.some c.in-Ok.ensures.bytes.0 (piece_fits c.in-Ok.count c.read_after.new.buffer whole) c.loop-turn.invariant.1.1.1.0.1 c.read_after.ensures.noted (λ e. not_spent (Err c.in-Err.end) (sym c.end_of-in-Err.ensures ∙ e)))

pub returns-in-Err-clause-goes : goal.returns-in-Err-clause-goes
returns-in-Err-clause-goes g c = g.met.I.Incoming.joins _ _ _ c.loop-turn.invariant.1.0 c.read_after.ensures.goes

pub returns-clause-script : goal.returns-clause-script
returns-clause-script g c = λ honest h stands.
    turns_over g.R.RegistryCalls h (g.O.Output.taken c.args.output.now) c.args.registry.now c.loop-turn.registry (out g.O.Output c.loop-turn.output c.loop-turn.held.items) c.loop-turn.kept.items c.loop-turn.invariant.0.front (g.I.Incoming.to_come c.args.input.now) (g.I.Incoming.to_come c.loop-turn.input) c.loop-turn.invariant.0.consumed c.loop-turn.invariant.0.empty (c.loop-turn.invariant.0.answered honest h stands)

pub returns-clause-ended : goal.returns-clause-ended
returns-clause-ended g c =
    all_made _ c.loop-turn._turn c.loop-turn.invariant.0.front (last_turn _ _ c.loop-turn.auto._turn-end c.loop-turn-test.false) c.loop-turn.invariant.0.counted c.loop-turn.invariant.0.consumed c.loop-turn.invariant.0.bounded c.loop-turn.invariant.0.some c.loop-turn.invariant.1.1.1.0.0 c.loop-turn.invariant.1.1.1.0.1

pub returns-in_default-clause-calls : goal.returns-in_default-clause-calls
returns-in_default-clause-calls g c = c.loop-turn.invariant.0.calls

pub returns-then-count-eq0-clause-calls : goal.returns-then-count-eq0-clause-calls
returns-then-count-eq0-clause-calls g c = go_then g.R.RegistryCalls.showing c.args.registry.now c.loop-turn.registry c.end_text.new.registry c.loop-turn.invariant.0.calls c.end_text.ensures.calls

pub returns-in-Err-clause-calls : goal.returns-in-Err-clause-calls
returns-in-Err-clause-calls g c = go_then g.R.RegistryCalls.showing c.args.registry.now c.loop-turn.registry c.take_piece.new.registry c.loop-turn.invariant.0.calls c.take_piece.ensures.calls

pub returns-clause-calls : goal.returns-clause-calls
returns-clause-calls g c = c.loop-turn.invariant.0.calls

pub returns-in_default-clause-caught_up : goal.returns-in_default-clause-caught_up
returns-in_default-clause-caught_up g c = read_then g.R.RegistryCalls c.args.registry.now c.loop-turn.registry (g.O.Output.taken c.args.output.now) (g.I.Incoming.to_come c.args.input.now) (g.I.Incoming.to_come c.loop-turn.input) (out g.O.Output c.loop-turn.output c.loop-turn.held.items) c.loop-turn.kept.items (g.I.Incoming.reads c.args.input.now) (g.I.Incoming.reads c.loop-turn.input) c.loop-turn._turn (g.I.Incoming.moments c.args.input.now) (g.I.Incoming.moments c.loop-turn.input) (g.I.Incoming.moments c.read_after.new.self) c.loop-turn.invariant.0 c.loop-turn.invariant.1.1.0 c.read_after.ensures.noted

pub returns-then-count-eq0-clause-caught_up : goal.returns-then-count-eq0-clause-caught_up
returns-then-count-eq0-clause-caught_up g c =
    calls_then g.R.RegistryCalls c.args.registry.now c.loop-turn.registry c.end_text.new.registry (g.O.Output.taken c.args.output.now) (g.O.Output.taken c.loop-turn.output) (g.O.Output.taken c.end_text.new.output) (g.I.Incoming.to_come c.args.input.now) (g.I.Incoming.moments c.args.input.now) (g.I.Incoming.moments c.read_after.new.self) c.end_text.ensures.calls
    (read_then g.R.RegistryCalls c.args.registry.now c.loop-turn.registry (g.O.Output.taken c.args.output.now) (g.I.Incoming.to_come c.args.input.now) (g.I.Incoming.to_come c.loop-turn.input) (out g.O.Output c.loop-turn.output c.loop-turn.held.items) c.loop-turn.kept.items (g.I.Incoming.reads c.args.input.now) (g.I.Incoming.reads c.loop-turn.input) c.loop-turn._turn (g.I.Incoming.moments c.args.input.now) (g.I.Incoming.moments c.loop-turn.input) (g.I.Incoming.moments c.read_after.new.self) c.loop-turn.invariant.0 c.loop-turn.invariant.1.1.0 c.read_after.ensures.noted)

pub returns-in-Err-clause-caught_up : goal.returns-in-Err-clause-caught_up
returns-in-Err-clause-caught_up g c =
    calls_then g.R.RegistryCalls c.args.registry.now c.loop-turn.registry c.take_piece.new.registry (g.O.Output.taken c.args.output.now) (g.O.Output.taken c.loop-turn.output) (g.O.Output.taken c.take_piece.new.output) (g.I.Incoming.to_come c.args.input.now) (g.I.Incoming.moments c.args.input.now) (g.I.Incoming.moments c.read_after.new.self) c.take_piece.ensures.calls
    (read_then g.R.RegistryCalls c.args.registry.now c.loop-turn.registry (g.O.Output.taken c.args.output.now) (g.I.Incoming.to_come c.args.input.now) (g.I.Incoming.to_come c.loop-turn.input) (out g.O.Output c.loop-turn.output c.loop-turn.held.items) c.loop-turn.kept.items (g.I.Incoming.reads c.args.input.now) (g.I.Incoming.reads c.loop-turn.input) c.loop-turn._turn (g.I.Incoming.moments c.args.input.now) (g.I.Incoming.moments c.loop-turn.input) (g.I.Incoming.moments c.read_after.new.self) c.loop-turn.invariant.0 c.loop-turn.invariant.1.1.0 c.read_after.ensures.noted)

pub returns-clause-caught_up : goal.returns-clause-caught_up
returns-clause-caught_up g c = c.loop-turn.invariant.1.1.0

pub returns-clause-goes : goal.returns-clause-goes
returns-clause-goes g c = c.loop-turn.invariant.1.0
