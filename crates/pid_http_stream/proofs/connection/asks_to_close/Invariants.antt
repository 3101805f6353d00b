use Rattle.std.proofs.Common.{◌≡◌, drop, map}
use Rattle.std.specs.Prelude.{codes}
use Rattle.std.specs.List.{list_any}
use Rattle.httparse.specs.Spans.{header_bytes}
use Rattle.pid_http_stream.specs.FieldValues.{values_of}
use Rattle.pid_http_stream.specs.Connections.{has_close}
use Rattle.pid_http_stream.proofs.connection.asks_to_close.Given as goal

abbrev pub invariant-loop-field : goal.invariant-loop-field
invariant-loop-field l = list_any has_close (values_of (codes "connection") (map (header_bytes l.buf) (drop l.field-index l.fields))) ≡ list_any has_close (values_of (codes "connection") (map (header_bytes l.buf) l.fields))
