use Rattle.std.proofs.Common.{refl, sym, ap, ◌∙◌}
use Rattle.std.specs.Prelude.{codes, vec_len}
use Rattle.pid_moderation.specs.Fields.{texts_of, value}
use Rattle.pid_script.specs.Asking.{other_fields}
use Rattle.pid_script.proofs.KeyFields.{others_at, others_all, key_none, key_at, key_on, key_place, none_yet, no_key}
use Rattle.pid_script.proofs.fields.take_key.Goals as goal

pub returns-then-eq-clause-key : goal.returns-then-eq-clause-key
returns-then-eq-clause-key c =
    sym (key_at c.loop-place.fields.items c.remove-key.result c.loop-place.place (key_place c.loop-place.fields c.loop-place.place c.len-place-end.result c.index.result.now c.as_str.result.now (c.len-place-end.ensures ∙ ap vec_len (sym c.loop-place.invariant.0)) c.loop-place-test.true c.loop-place.invariant.1 c.index.ensures c.as_str.ensures.value c.if-eq.ensures) c.remove-key.ensures.value) ∙ ap (λ v. value (codes "key") (texts_of v.items)) c.loop-place.invariant.0

pub returns-then-eq-clause-others : goal.returns-then-eq-clause-others
returns-then-eq-clause-others c =
    ap texts_of c.remove-key.ensures.items ∙ others_at c.loop-place.fields.items c.loop-place.place (key_place c.loop-place.fields c.loop-place.place c.len-place-end.result c.index.result.now c.as_str.result.now (c.len-place-end.ensures ∙ ap vec_len (sym c.loop-place.invariant.0)) c.loop-place-test.true c.loop-place.invariant.1 c.index.ensures c.as_str.ensures.value c.if-eq.ensures) ∙ ap (λ v. other_fields (texts_of v.items)) c.loop-place.invariant.0

pub returns-clause-key : goal.returns-clause-key
returns-clause-key c = sym (key_none c.loop-place.fields.items (no_key c.loop-place.fields c.loop-place.place c.len-place-end.result (c.len-place-end.ensures ∙ ap vec_len (sym c.loop-place.invariant.0)) c.loop-place-test.false c.loop-place.invariant.1)) ∙ ap (λ v. value (codes "key") (texts_of v.items)) c.loop-place.invariant.0

pub returns-clause-others : goal.returns-clause-others
returns-clause-others c = others_all c.loop-place.fields.items (no_key c.loop-place.fields c.loop-place.place c.len-place-end.result (c.len-place-end.ensures ∙ ap vec_len (sym c.loop-place.invariant.0)) c.loop-place-test.false c.loop-place.invariant.1) ∙ ap (λ v. other_fields (texts_of v.items)) c.loop-place.invariant.0

pub loop-place-init : goal.loop-place-init
loop-place-init c = (refl, none_yet _)

pub loop-place-preserved : goal.loop-place-preserved
loop-place-preserved c = (c.loop-place.invariant.0, key_on c.loop-place.fields c.loop-place.place c.len-place-end.result c.index.result.now c.as_str.result.now (c.len-place-end.ensures ∙ ap vec_len (sym c.loop-place.invariant.0)) c.loop-place-test.true c.loop-place.invariant.1 c.index.ensures c.as_str.ensures.value c.if-eq.ensures)
