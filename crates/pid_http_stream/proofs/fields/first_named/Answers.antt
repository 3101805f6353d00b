use Rattle.std.proofs.Common.{sym, ◌∙◌, ap, Some}
use Rattle.httparse.specs.Spans.{header_bytes}
use Rattle.pid_http_stream.specs.FieldValues.{first_value}
use Rattle.pid_http_stream.proofs.FieldWalks.{passed, found}
use Rattle.pid_http_stream.proofs.fields.first_named.Goals as goal

pub returns-then-is_field : goal.returns-then-is_field
returns-then-is_field c =
    let e = found c.args.name.now (header_bytes c.args.buf.now) c.args.fields.now c.loop-field.field-index _ c.loop-field-test.true (sym c.is_field.ensures ∙ c.if-is_field.true) in
    ap Some c.of.ensures ∙ sym (ap first_value e) ∙ c.loop-field.invariant

pub loop-field-preserved : goal.loop-field-preserved
loop-field-preserved c =
    let e = passed c.args.name.now (header_bytes c.args.buf.now) c.args.fields.now c.loop-field.field-index _ c.loop-field-test.true (sym c.is_field.ensures ∙ c.if-is_field.false) in
    sym (ap first_value e) ∙ c.loop-field.invariant
