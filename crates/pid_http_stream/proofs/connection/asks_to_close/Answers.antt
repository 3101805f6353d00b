use Rattle.std.proofs.Common.{rules, sym, ap, ◌∙◌, ◌+◌, map, drop, List}
use Rattle.std.specs.Prelude.{codes, ◌||◌, Bool}
use Rattle.std.specs.List.{list_any}
use Rattle.std.proofs.lemmas.List.{drop_all}
use Rattle.httparse.specs.Spans.{header_bytes}
use Rattle.httparse.specs.declared.spans.HeaderSpan.{HeaderSpan}
use Rattle.pid_http_stream.specs.FieldValues.{values_of}
use Rattle.pid_http_stream.specs.Connections.{has_close}
use Rattle.pid_http_stream.proofs.FieldWalks.{found}
use Rattle.pid_http_stream.proofs.Closing.{asks_old, asks_named, asks_not}
use Rattle.pid_http_stream.proofs.connection.asks_to_close.Goals as goal

pub returns-then-minor-eq0 : goal.returns-then-minor-eq0
returns-then-minor-eq0 c = asks_old _ _ c.if-minor-eq0.true

pub returns-then-names_close : goal.returns-then-names_close
returns-then-names_close c =
    let e = found (codes "connection") (header_bytes c.args.buf.now) c.args.fields.now c.loop-field.field-index _ c.loop-field-test.true (sym c.is_field.ensures ∙ c.if-is_field.true) in
    let named = ap has_close (sym c.of.ensures) ∙ sym c.names_close.ensures ∙ c.if-names_close.true in
    asks_named _ _ (sym c.loop-field.invariant ∙ ap (list_any has_close) e ∙ ap (λ (b : Bool). b || list_any has_close (values_of (codes "connection") (map (header_bytes c.args.buf.now) (drop (c.loop-field.field-index + 1) c.args.fields.now)))) named)

pub returns : goal.returns
returns c = asks_not _ _ (search rules) (sym c.loop-field.invariant ∙ ap (λ (xs : List HeaderSpan). list_any has_close (values_of (codes "connection") (map (header_bytes c.args.buf.now) xs))) (drop_all c.loop-field.field-index c.args.fields.now (search rules)))
