use Rattle.std.proofs.Common.{length, arith, sym, ◌∙◌, ap}
use Rattle.httparse.specs.Spans.{header_bytes}
use Rattle.pid_http_stream.proofs.FieldWalks.{passed, found}
use Rattle.pid_http_stream.proofs.fields.count_named.Goals as goal
use Rattle.pid_http_stream.proofs.fields.count_named.Goals.{then-is_field, else-is_field}

pub loop-field-preserved : goal.loop-field-preserved
loop-field-preserved c = elim c.if-is_field.branch [
  | then-is_field w ↦ (let e = found c.args.name.now (header_bytes c.args.buf.now) c.args.fields.now c.loop-field.field-index _ c.loop-field-test.true (sym c.is_field.ensures ∙ w.if-is_field.true) in record { below = omega arith; left = omega (arith, ap length e) })
  | else-is_field w ↦ (let e = passed c.args.name.now (header_bytes c.args.buf.now) c.args.fields.now c.loop-field.field-index _ c.loop-field-test.true (sym c.is_field.ensures ∙ w.if-is_field.false) in record { below = omega arith; left = omega (arith, ap length e) })
]
