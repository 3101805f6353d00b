use Rattle.std.proofs.Common.{◌≡◌, ap, ◌∙◌}
use Rattle.std.specs.Prelude.{codes}
use Rattle.pid_moderation.specs.Fields.{texts_of, value}
use Rattle.pid_form.specs.FormFields.{fields_in}
use Rattle.pid_script.specs.Asking.{command_in_form, other_fields}
use Rattle.pid_script.proofs.FieldCounts.{no_command}
use Rattle.pid_script.proofs.fields.read_command.Goals as goal

pub returns-clause-ok : goal.returns-clause-ok
unfolding command_in_form
returns-clause-ok c =
    let all : texts_of c.in_ok-fields.fields.items ≡ fields_in c.args.form.now = c.in_ok-fields.ensures.fields in
    c.command_with.ensures.ok (fields_in c.args.form.now) (c.take_key-key.ensures.key ∙ ap (value (codes "key")) all) (ap texts_of c.deref.ensures.value ∙ c.take_key-key.ensures.others ∙ ap other_fields all)

pub returns-clause-err : goal.returns-clause-err
unfolding command_in_form
returns-clause-err c =
    let all : texts_of c.in_ok-fields.fields.items ≡ fields_in c.args.form.now = c.in_ok-fields.ensures.fields in
    c.command_with.ensures.err (fields_in c.args.form.now) (c.take_key-key.ensures.key ∙ ap (value (codes "key")) all) (ap texts_of c.deref.ensures.value ∙ c.take_key-key.ensures.others ∙ ap other_fields all)

pub returns-then-has_more_fields-clause-err : goal.returns-then-has_more_fields-clause-err
returns-then-has_more_fields-clause-err c = λ _. no_command c.args.verb c.args.account.now c.args.form.now c.if-has_more_fields.ensures
