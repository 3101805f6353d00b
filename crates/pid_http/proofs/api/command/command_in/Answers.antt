use Rattle.std.proofs.Common.{ap, ◌∙◌}
use Rattle.pid_form.specs.FormFields.{fields_in}
use Rattle.pid_moderation.specs.Fields.{texts_of}
use Rattle.pid_http.proofs.OfApi.FieldCounts.{too_many_said}
use Rattle.pid_http.proofs.OfApi.Forms.{no_form, form_ok, form_err}
use Rattle.pid_http.proofs.api.command.command_in.Goals as goal

pub returns-in_default-clause-err : goal.returns-in_default-clause-err
returns-in_default-clause-err c = λ _. no_form c.args.verb _ c.args.body.now c.in_default.ensures

pub returns-then-has_too_many_fields-clause-err : goal.returns-then-has_too_many_fields-clause-err
returns-then-has_too_many_fields-clause-err c = λ _. too_many_said c.args.verb _ c.in-Some.form.now c.args.body.now c.in-Some.ensures.0 c.in-Some.ensures.1 c.if-has_too_many_fields.ensures

pub returns-clause-ok : goal.returns-clause-ok
returns-clause-ok c =
    form_ok c.args.verb _ c.args.body.now (texts_of c.deref.result.now) c.command_of.result c.in-Some.ensures.1
    (ap texts_of c.deref.ensures.value ∙ c.in_ok-fields.ensures.fields ∙ ap fields_in c.in-Some.ensures.0) c.command_of.ensures

pub returns-clause-err : goal.returns-clause-err
returns-clause-err c =
    form_err c.args.verb _ c.args.body.now (texts_of c.deref.result.now) c.command_of.result c.in-Some.ensures.1
    (ap texts_of c.deref.ensures.value ∙ c.in_ok-fields.ensures.fields ∙ ap fields_in c.in-Some.ensures.0) c.command_of.ensures
