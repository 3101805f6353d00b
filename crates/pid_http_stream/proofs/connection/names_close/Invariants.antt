use Rattle.std.proofs.Common.{◌≡◌, ◌≤◌, drop}
use Rattle.std.specs.Prelude.{slice_range}
use Rattle.pid_http_stream.specs.Connections.{has_close}
use Rattle.pid_http_stream.proofs.Closing.{closes_after}
use Rattle.pid_http_stream.proofs.connection.names_close.Given as goal

abbrev pub invariant-loop-i : goal.invariant-loop-i
invariant-loop-i l = record { ordered : l.start ≤ l.i; same : closes_after (slice_range l.value l.start l.i) (drop l.i l.value) ≡ has_close l.value }
