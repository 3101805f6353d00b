use Rattle.httparse.specs.Spans.{header_bytes}
use Rattle.pid_http_stream.proofs.FieldWalks.{named_test}
use Rattle.pid_http_stream.proofs.fields.is_field.Goals as goal

pub returns : goal.returns
returns c = named_test _ _ (header_bytes c.args.buf.now c.args.field.now) _ c.of.ensures c.eq_ignore_ascii_case.ensures.test
