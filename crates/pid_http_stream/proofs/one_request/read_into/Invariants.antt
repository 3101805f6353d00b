use Rattle.std.specs.Io.KnownBytes.{Consumes}
use Rattle.pid_http_stream.proofs.one_request.read_into.Given as goal

abbrev pub invariant-loop : goal.invariant-loop
invariant-loop g l = record {
  consumed : Consumes (g.B.Input.to_come l.fn.body) (g.B.Input.to_come l.body) l.bytes.items;
  goes : g.B.Input.goes l.fn.body l.body;
}
