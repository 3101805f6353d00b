use Rattle.std.proofs.Common.{rules, arith, ◌≡◌, ◌≤◌, ◌++◌, length, length-append, take, drop, refl, sym, ◌∙◌}
use Rattle.std.proofs.KnownBytes.{Consumes-nil}
use Rattle.std.proofs.lemmas.List.{length-take-le, take-append-le}
use Rattle.pid_http_stream.specs.Steps.BodyLaws.{no_body_reads}
use Rattle.pid_http_stream.proofs.BodyReads.{held_given, read_given, nothing, keeps_same, none_left, keeps_padded, none_of, some_kept_by, none_kept_by, keeps_kept, none_kept, gave_held, gave_read, broke_off}
use Rattle.pid_http_stream.proofs.body_input.BodyInputInput.read.Goals as goal

pub returns-then-is_some-clause-room : goal.returns-then-is_some-clause-room
returns-then-is_some-clause-room g c = tt

pub returns-then-is_some-clause-bytes : goal.returns-then-is_some-clause-bytes
returns-then-is_some-clause-bytes g c = keeps_same _

pub returns-then-is_some-clause-fault : goal.returns-then-is_some-clause-fault
returns-then-is_some-clause-fault g c = some_kept_by c.args.self.now.fault (sym c.is_some.ensures ∙ c.if-is_some.true)

pub returns-then-is_some-clause-kept : goal.returns-then-is_some-clause-kept
returns-then-is_some-clause-kept g c = keeps_kept _ c.args.self.now.fault refl

pub returns-then-is_some-clause-count : goal.returns-then-is_some-clause-count
returns-then-is_some-clause-count g c = c.saturating_add-self.ensures

pub returns-then-is_some-clause-goes : goal.returns-then-is_some-clause-goes
returns-then-is_some-clause-goes g c = (refl, g.met.I.Incoming.stays c.args.self.now.input.now, no_body_reads _)

pub returns-then-room-eq0-clause-room : goal.returns-then-room-eq0-clause-room
returns-then-room-eq0-clause-room g c = omega arith

pub returns-then-room-eq0-clause-bytes : goal.returns-then-room-eq0-clause-bytes
returns-then-room-eq0-clause-bytes g c = (Consumes-nil _, λ z some. none_left (g.I.Incoming.to_come c.args.self.now.input.now) c.args.self.now.wanted c.args.self.now.held.now (omega (arith, c.min-room.ensures, c.if-room-eq0.true, some)))

pub returns-then-room-eq0-clause-fault : goal.returns-then-room-eq0-clause-fault
returns-then-room-eq0-clause-fault g c = none_kept_by c.args.self.now.fault (sym c.is_some.ensures ∙ c.if-is_some.false)

pub returns-then-room-eq0-clause-kept : goal.returns-then-room-eq0-clause-kept
returns-then-room-eq0-clause-kept g c = none_kept c.args.self.now.fault _ (sym c.is_some.ensures ∙ c.if-is_some.false)

pub returns-then-room-eq0-clause-count : goal.returns-then-room-eq0-clause-count
returns-then-room-eq0-clause-count g c = c.saturating_add-self.ensures

pub returns-then-room-eq0-clause-goes : goal.returns-then-room-eq0-clause-goes
returns-then-room-eq0-clause-goes g c = (refl, g.met.I.Incoming.stays c.args.self.now.input.now, no_body_reads _)

pub returns-then-not-is_empty-clause-room : goal.returns-then-not-is_empty-clause-room
returns-then-not-is_empty-clause-room g c = let whole = length-append c.give_front-count.new.buffer (drop c.min-room.result c.args.buffer.now) in omega (arith, c.give_front-count.ensures.count, whole)

pub returns-then-not-is_empty-clause-bytes : goal.returns-then-not-is_empty-clause-bytes
returns-then-not-is_empty-clause-bytes g c =
    let sized : length c.give_front-count.new.buffer ≡ c.min-room.result = search rules in
    let fits : c.give_front-count.result.0 ≤ length c.give_front-count.new.buffer = omega (arith, c.give_front-count.ensures.count) in (
      held_given (g.I.Incoming.to_come c.args.self.now.input.now) c.args.self.now.wanted c.give_front-count.result.0 c.args.self.now.held.now c.give_front-count.result.1.now (take c.give_front-count.result.0 c.give_front-count.new.buffer)
          (take c.give_front-count.result.0 (c.give_front-count.new.buffer ++ drop c.min-room.result c.args.buffer.now))
          c.give_front-count.ensures.given (length-take-le _ c.give_front-count.new.buffer fits) (omega (arith, fits, sized, c.min-room.ensures)) (take-append-le _ c.give_front-count.new.buffer _ fits),
      λ z some. absurd (search rules),
    )

pub returns-then-not-is_empty-clause-fault : goal.returns-then-not-is_empty-clause-fault
returns-then-not-is_empty-clause-fault g c = none_kept_by c.args.self.now.fault (sym c.is_some.ensures ∙ c.if-is_some.false)

pub returns-then-not-is_empty-clause-kept : goal.returns-then-not-is_empty-clause-kept
returns-then-not-is_empty-clause-kept g c = none_kept c.args.self.now.fault _ (sym c.is_some.ensures ∙ c.if-is_some.false)

pub returns-then-not-is_empty-clause-count : goal.returns-then-not-is_empty-clause-count
returns-then-not-is_empty-clause-count g c = c.saturating_add-self.ensures

pub returns-then-not-is_empty-clause-goes : goal.returns-then-not-is_empty-clause-goes
returns-then-not-is_empty-clause-goes g c =
    let sized : length c.give_front-count.new.buffer ≡ c.min-room.result = search rules in
    let fits : c.give_front-count.result.0 ≤ length c.give_front-count.new.buffer = omega (arith, c.give_front-count.ensures.count) in (
      refl,
      g.met.I.Incoming.stays c.args.self.now.input.now,
      gave_held c.args.self.now.fault _ _ c.args.self.now.wanted c.give_front-count.result.0 c.args.self.now.held.now c.give_front-count.result.1.now (take c.give_front-count.result.0 c.give_front-count.new.buffer)
          (none_of c.args.self.now.fault (sym c.is_some.ensures ∙ c.if-is_some.false)) c.give_front-count.ensures.given (length-take-le _ c.give_front-count.new.buffer fits) (omega (arith, fits, sized, c.min-room.ensures)),
    )

pub returns-in-Ok-clause-room : goal.returns-in-Ok-clause-room
returns-in-Ok-clause-room g c = let whole = length-append c.read_turn.new.buffer (drop c.min-room.result c.args.buffer.now) in omega (arith, c.in-Ok.ensures.read.brings.2, whole)

pub returns-in-Ok-clause-bytes : goal.returns-in-Ok-clause-bytes
returns-in-Ok-clause-bytes g c =
    let r = c.in-Ok.ensures.read.brings in
    let sized : length c.read_turn.new.buffer ≡ c.min-room.result = search rules in (
      read_given (g.I.Incoming.to_come c.args.self.now.input.now) (g.I.Incoming.to_come c.read_turn.new.input) c.args.self.now.wanted c.in-Ok.count c.args.self.now.held.now (take c.in-Ok.count c.read_turn.new.buffer)
          (take c.in-Ok.count (c.read_turn.new.buffer ++ drop c.min-room.result c.args.buffer.now))
          (nothing _ (search rules)) r.0 (length-take-le _ c.read_turn.new.buffer r.2) (omega (arith, r.2, sized, c.min-room.ensures)) (take-append-le _ c.read_turn.new.buffer _ r.2),
      λ z some. absurd (omega (arith, z, r.1)),
    )

pub returns-in-Ok-clause-fault : goal.returns-in-Ok-clause-fault
returns-in-Ok-clause-fault g c = none_kept_by c.args.self.now.fault (sym c.is_some.ensures ∙ c.if-is_some.false)

pub returns-in-Ok-clause-kept : goal.returns-in-Ok-clause-kept
returns-in-Ok-clause-kept g c = none_kept c.args.self.now.fault _ (sym c.is_some.ensures ∙ c.if-is_some.false)

pub returns-in-Ok-clause-count : goal.returns-in-Ok-clause-count
returns-in-Ok-clause-count g c = c.saturating_add-self.ensures

pub returns-in-Ok-clause-goes : goal.returns-in-Ok-clause-goes
returns-in-Ok-clause-goes g c =
    let r = c.in-Ok.ensures.read.brings in
    let sized : length c.read_turn.new.buffer ≡ c.min-room.result = search rules in (
      refl,
      c.read_turn.ensures.goes,
      gave_read c.args.self.now.fault _ _ _ c.args.self.now.wanted c.in-Ok.count c.args.self.now.held.now (take c.in-Ok.count c.read_turn.new.buffer)
          (none_of c.args.self.now.fault (sym c.is_some.ensures ∙ c.if-is_some.false)) (nothing _ (search rules)) r.0 (length-take-le _ c.read_turn.new.buffer r.2) (omega (arith, r.2, sized, c.min-room.ensures)) c.in-Ok.ensures.read.turns (omega (arith, c.min-room.ensures, c.if-room-eq0.false)) c.in-Ok.ensures.read.noted r.3,
    )

pub returns-in-Err-clause-room : goal.returns-in-Err-clause-room
returns-in-Err-clause-room g c = tt

pub returns-in-Err-clause-bytes : goal.returns-in-Err-clause-bytes
returns-in-Err-clause-bytes g c = keeps_padded _ _ c.args.self.now.wanted c.args.self.now.held.now c.in-Err.ensures.read.brings.0

pub returns-in-Err-clause-fault : goal.returns-in-Err-clause-fault
returns-in-Err-clause-fault g c = refl

pub returns-in-Err-clause-kept : goal.returns-in-Err-clause-kept
returns-in-Err-clause-kept g c = keeps_kept _ c.args.self.now.fault refl

pub returns-in-Err-clause-count : goal.returns-in-Err-clause-count
returns-in-Err-clause-count g c = c.saturating_add-self.ensures

pub returns-in-Err-clause-goes : goal.returns-in-Err-clause-goes
returns-in-Err-clause-goes g c =
    let r = c.in-Err.ensures.read.brings in (
      refl,
      c.read_turn.ensures.goes,
      broke_off c.args.self.now.fault _ _ _ c.args.self.now.wanted c.args.self.now.held.now c.in-Err.fault
          (none_of c.args.self.now.fault (sym c.is_some.ensures ∙ c.if-is_some.false)) r.0 c.in-Err.ensures.read.turns (omega (arith, c.min-room.ensures, c.if-room-eq0.false)) (nothing c.args.self.now.held.now (search rules)) c.in-Err.ensures.read.noted r.1 r.2,
    )
