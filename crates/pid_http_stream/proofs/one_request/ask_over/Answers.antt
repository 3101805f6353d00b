use Rattle.std.proofs.Common.{rules, ◌≡◌, refl, None, subst}
use Rattle.pid_http_stream.specs.OneStream.{answering}
use Rattle.pid_http_stream.specs.Steps.Bodies.{BodyState, turns_at}
use Rattle.pid_http_stream.specs.Steps.Loop.{AsksOver, asked_so, attending, front_head}
use Rattle.pid_http_stream.proofs.Asked.{Reading, asked_is, asked_stops, asked_turns, body_waits}
use Rattle.pid_http_stream.proofs.Leading.{turned}
use Rattle.pid_http_stream.proofs.one_request.ask_over.Goals as goal

pub returns : goal.returns
returns g c =
    let head = c.args.head.now in
    let held = head.bytes.now in
    let fields = head.fields.now in
    let wanted = c.args.content_length in
    let e = c.ask-reply.ensures in
    let result = c.ask-reply.result in
    let old : BodyState = record { held = c.came_with.result.now; wanted = wanted; fault = None; turns = turns_at g.I.Incoming c.args.input.now c.args.turns_left.now; taken = g.W.Output.taken c.args.output.now } in
    let body = c.ask-reply.new.body in
    let new : BodyState = record { held = body.held.now; wanted = body.wanted; fault = body.fault; turns = turns_at g.I.Incoming body.input.now body.left; taken = g.W.Output.taken body.output.now } in
    let reading : Reading held fields head.spans wanted old new =
    record { stands = c.requires; n = _; n_is = refl; held_is = c.came_with.ensures.front; wanted_is = refl; no_fault = refl; read = e.body.goes.2; fits = body.fits } in
    let same : body.input.now ≡ c.input-1.given.0 = search rules in
    rw c.asked_of.ensures (subst (λ i. AsksOver (answering g.H.Handler) g.I.Incoming g.W.Output (front_head head wanted) (attending c.args.handler.now c.args.input.now c.args.output.now c.args.turns_left.now) (attending c.ask-reply.new.handler i c.args.output.now body.left) (asked_so result body.wanted body.fault)) same
    (record {
      becomes = e.becomes;
      asked = turned _ _ _ _ (λ v w holds. asked_is g.H.Handler.conduct v w held fields head.spans wanted old new reading result holds e.body.whole) e.answered;
      turns = asked_turns held fields head.spans wanted old new reading result;
      waits = body_waits held fields head.spans wanted old new reading;
      stopped = asked_stops held fields head.spans wanted old new reading result;
      goes = e.body.goes.1;
    }))
