use Rattle.std.proofs.Common.{◌≡◌, ◌≤◌, ◌+◌, length, map, drop}
use Rattle.httparse.specs.Spans.{header_bytes}
use Rattle.pid_http_stream.specs.FieldValues.{values_of}
use Rattle.pid_http_stream.proofs.fields.count_named.Given as goal

abbrev pub invariant-loop-field : goal.invariant-loop-field
invariant-loop-field l = record {
  below : l.count ≤ l.field-index;
  left : l.count + length (values_of l.name (map (header_bytes l.buf) (drop l.field-index l.fields))) ≡ length (values_of l.name (map (header_bytes l.buf) l.fields));
}
