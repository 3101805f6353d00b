use Rattle.std.proofs.Common.{◌≡◌, ◌+◌, ◌*◌, ◌≤◌, length}
use Rattle.pid_http_stream.specs.Steps.Bodies.{SpendsTurns, turns_at}
use Rattle.pid_http_stream.specs.Steps.Intakes.{ComesIn, IsHeadJudged, WaitsForRequest}
use Rattle.pid_http_stream.specs.Moments.{AllSince}
use Rattle.pid_http_stream.specs.declared.limits.TheConstants.{READ_SIZE}
use Rattle.pid_http_stream.proofs.intake.read_head.Given as goal

abbrev pub invariant-reading : goal.invariant-reading
invariant-reading g l = record {
  comes : ComesIn l.fn.held.items l.held.items (g.I.Incoming.to_come l.fn.input) (g.I.Incoming.to_come l.input);
  judged : IsHeadJudged l.held.items l.fields l.judged;
  turns : SpendsTurns 0 (turns_at g.I.Incoming l.fn.input l.fn.turns_left) (turns_at g.I.Incoming l.input l.turns_left);
  failed : g.I.Incoming.read_fault l.input ≡ g.I.Incoming.read_fault l.fn.input;
  pace : l.turns_left * READ_SIZE + length l.held.items ≤ l.fn.turns_left * READ_SIZE + length l.fn.held.items;
  waits : AllSince (WaitsForRequest l.fn.held.items (g.I.Incoming.to_come l.fn.input) (g.W.Output.taken l.output)) (g.I.Incoming.moments l.fn.input) (g.I.Incoming.moments l.input);
  goes : g.I.Incoming.goes l.fn.input l.input;
}

abbrev pub decreases-reading : goal.decreases-reading
decreases-reading g l = l.turns_left
