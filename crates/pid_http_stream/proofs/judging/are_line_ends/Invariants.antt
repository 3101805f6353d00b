use Rattle.std.proofs.Common.{◌≡◌, drop, false}
use Rattle.pid_http_stream.specs.Steps.LineScans.{blank_after}
use Rattle.pid_http_stream.proofs.judging.are_line_ends.Given as goal

abbrev pub invariant-loop-byte : goal.invariant-loop-byte
invariant-loop-byte l = blank_after l.cr (drop l.byte-index l.bytes) ≡ blank_after false l.bytes
