use Rattle.std.proofs.Common.{◌≡◌, ◌+◌, ◌*◌, length}
use Rattle.std.specs.Prelude.{IfSome}
use Rattle.pid_http_stream.specs.Steps.Bodies.{SpendsTurns, turns_at}
use Rattle.pid_http_stream.specs.Leading.{Leads}
use Rattle.pid_http_stream.specs.Moments.{AllSince}
use Rattle.pid_http_stream.specs.Serving.{IsCaughtUp}
use Rattle.pid_http_stream.proofs.Serving.{IsServing}
use Rattle.pid_http_stream.specs.declared.limits.TheConstants.{READ_SIZE}
use Rattle.pid_http_stream.proofs.stream.serve_held.Given as goal

abbrev pub invariant-serving : goal.invariant-serving
invariant-serving g l = record {
  serving : Leads g.H.Handler.is_good g.H.Handler.stands l.fn.handler l.handler (λ v w. IfSome (g.I.Incoming.to_come l.fn.input) (λ s. IsServing g.H.Handler.conduct
      (record { handler = v; handler_after = w; taken = g.W.Output.taken l.fn.output; taken_after = g.W.Output.taken l.output }) s (g.I.Incoming.to_come l.input) l.held.items l.answered));
  caught_up : Leads g.H.Handler.is_good g.H.Handler.stands l.fn.handler l.handler (λ v _. IfSome (g.I.Incoming.to_come l.fn.input) (λ s. AllSince (IsCaughtUp g.H.Handler.conduct
      v (g.W.Output.taken l.fn.output) s) (g.I.Incoming.moments l.fn.input) (g.I.Incoming.moments l.input)));
  becomes : g.H.Handler.becomes l.fn.handler l.handler;
  turns : SpendsTurns 0 (turns_at g.I.Incoming l.fn.input l.turns) (turns_at g.I.Incoming l.input l.turns_left);
  failed : g.I.Incoming.read_fault l.input ≡ g.I.Incoming.read_fault l.fn.input;
  goes : g.I.Incoming.goes l.fn.input l.input;
}

abbrev pub decreases-serving : goal.decreases-serving
decreases-serving g l = l.turns_left * READ_SIZE + length l.held.items
