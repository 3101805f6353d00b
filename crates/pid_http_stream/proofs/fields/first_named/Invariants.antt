use Rattle.std.proofs.Common.{◌≡◌, map, drop}
use Rattle.httparse.specs.Spans.{header_bytes}
use Rattle.pid_http_stream.specs.FieldValues.{values_of, first_value}
use Rattle.pid_http_stream.proofs.fields.first_named.Given as goal

abbrev pub invariant-loop-field : goal.invariant-loop-field
invariant-loop-field l = first_value (values_of l.name (map (header_bytes l.buf) (drop l.field-index l.fields))) ≡ first_value (values_of l.name (map (header_bytes l.buf) l.fields))
