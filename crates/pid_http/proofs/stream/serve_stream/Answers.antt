use Rattle.pid_http.specs.Steps.Going.{lives_still}
use Rattle.pid_http.proofs.StreamsServed.{memory_ends, none_read, none_served}
use Rattle.pid_http.proofs.stream.serve_stream.Goals as goal

pub returns-in_default : goal.returns-in_default
returns-in_default g c = record {
  becomes = lives_still _;
  goes = g.met.I.Incoming.stays _;
  served = none_served _ _ _ (g.I.Incoming.to_come c.args.reader.now);
  caught_up = none_read _ _ _ (g.I.Incoming.to_come c.args.reader.now) _;
  ended = memory_ends _ c.args.turns _;
}

pub returns : goal.returns
returns g c = c.serve_with.ensures
