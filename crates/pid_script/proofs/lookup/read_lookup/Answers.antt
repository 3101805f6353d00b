use Rattle.std.proofs.Common.{◌≡◌, Some, None, cond, refl, sym, ap, ◌∙◌}
use Rattle.pid_lookup.specs.Fields.{bytes_of, lookup_from, lookup_said}
use Rattle.pid_moderation.specs.Fields.{texts_of}
use Rattle.pid_form.specs.FormFields.{fields_in}
use Rattle.pid_script.specs.Asking.{lookup_in_form}
use Rattle.pid_script.proofs.LookupCounts.{no_lookup}
use Rattle.pid_script.proofs.lookup.read_lookup.Goals as goal

pub returns-in-Ok : goal.returns-in-Ok
unfolding lookup_in_form
returns-in-Ok c =
    let all : texts_of c.in_ok-fields.fields.items ≡ fields_in c.args.form.now = c.in_ok-fields.ensures.fields in
    ap lookup_from (sym all) ∙ ap (λ fs. lookup_from (texts_of fs)) (sym c.deref.ensures.value) ∙ c.in-Ok.ensures.ok

pub returns : goal.returns
unfolding lookup_in_form lookup_from
returns c =
    let all : texts_of c.in_ok-fields.fields.items ≡ fields_in c.args.form.now = c.in_ok-fields.ensures.fields in
    ap lookup_from (sym all) ∙ ap (λ fs. lookup_from (texts_of fs)) (sym c.deref.ensures.value) ∙ ap (λ b. cond b None (Some (lookup_said (bytes_of c.deref.result.now)))) (c.in-Err.ensures.bad.0 refl)

pub returns-then-has_more_fields : goal.returns-then-has_more_fields
returns-then-has_more_fields c = sym (no_lookup c.args.form.now c.if-has_more_fields.ensures)
