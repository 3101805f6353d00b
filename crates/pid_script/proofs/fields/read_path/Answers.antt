use Rattle.std.proofs.Common.{◌≡◌, ap, ◌∙◌}
use Rattle.pid_moderation.specs.Fields.{texts_of}
use Rattle.pid_form.specs.FormFields.{fields_in}
use Rattle.pid_script.specs.Asking.{path_asked, path_in}
use Rattle.pid_script.proofs.Cases.{is_ok, is_err}
use Rattle.pid_script.proofs.FieldCounts.{no_path}
use Rattle.pid_script.proofs.fields.read_path.Goals as goal

pub returns-clause-ok : goal.returns-clause-ok
unfolding path_asked
returns-clause-ok c =
    let all : texts_of c.in_ok-fields.fields.items ≡ fields_in c.args.form.now = c.in_ok-fields.ensures.fields in
    is_ok c.path_in.result (path_in (fields_in c.args.form.now)) (c.path_in.ensures ∙ ap (λ f. path_in (texts_of f)) c.deref.ensures.value ∙ ap path_in all)

pub returns-clause-err : goal.returns-clause-err
unfolding path_asked
returns-clause-err c =
    let all : texts_of c.in_ok-fields.fields.items ≡ fields_in c.args.form.now = c.in_ok-fields.ensures.fields in
    is_err _ c.path_in.result (path_in (fields_in c.args.form.now)) (c.path_in.ensures ∙ ap (λ f. path_in (texts_of f)) c.deref.ensures.value ∙ ap path_in all)

pub returns-then-has_more_fields-clause-err : goal.returns-then-has_more_fields-clause-err
returns-then-has_more_fields-clause-err c = λ _. no_path c.args.form.now c.if-has_more_fields.ensures
