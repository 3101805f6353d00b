use Rattle.std.proofs.Common.{◌≡◌, ◌≤◌, take}
use Rattle.std.specs.Prelude.{reverse}
use Rattle.httparse.specs.Grammar.{skip_ows}
use Rattle.pid_http_stream.proofs.connection.trim_end.Given as goal

abbrev pub invariant-loop-i : goal.invariant-loop-i
invariant-loop-i l = record { below : l.end ≤ l.i; same : skip_ows (reverse (take l.i l.word)) ≡ reverse (take l.end l.word) }
