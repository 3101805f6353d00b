use Rattle.std.proofs.Common.{sym, ◌∙◌}
use Rattle.std.specs.Prelude.{not, ◌&&◌}
use Rattle.std.specs.List.{list_all}
use Rattle.pid_form.specs.Fields.{is_twice}
use Rattle.pid_form.specs.FormFields.{bytes_of}
use Rattle.pid_http.proofs.OfApi.FieldNames.{of_names}
use Rattle.pid_http.proofs.api.field_values.are_of.Goals as goal

pub returns : goal.returns
returns c = (λ i. sym (sym c.has_no_other.ensures ∙ c.if-not-has_no_other.false) i && c.has_none_twice.ensures i) ∙ of_names c.args.fields.now c.args.names.now

pub returns-then-not-has_no_other : goal.returns-then-not-has_no_other
returns-then-not-has_no_other c =
    (λ i. (sym c.if-not-has_no_other.true ∙ c.has_no_other.ensures) i && list_all (λ name. not (is_twice name.now (bytes_of c.args.fields.now))) c.args.names.now)
    ∙ of_names c.args.fields.now c.args.names.now
