use Rattle.std.proofs.Common.{◌≡◌, true}
use Rattle.pid_http_stream.specs.Listener.Streams.{IsGivenMore}
use Rattle.pid_http_stream.proofs.listener.serving.serve_on.Given as goal

abbrev pub invariant-loop-begun : goal.invariant-loop-begun
invariant-loop-begun g l = record {
  goes : g.S.StreamServer.goes l.initial.server l.server;
  counted : IsGivenMore l.begun (g.S.StreamServer.given l.initial.server) (g.S.StreamServer.given l.server);
  before : g.S.StreamServer.live l.initial.server ≡ true;
  live : g.S.StreamServer.live l.server ≡ true;
}
