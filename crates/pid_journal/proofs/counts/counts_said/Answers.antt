use Rattle.std.proofs.Common.{sym, ap, ◌∙◌}
use Rattle.pid_form.specs.FormFields.{bytes_of}
use Rattle.pid_journal.specs.Journals.{counts_in_fields}
use Rattle.pid_journal.proofs.Reading.{not_comment, not_text, says_fields}
use Rattle.pid_journal.proofs.counts.counts_said.Goals as goal

pub returns-then-not-is_comment : goal.returns-then-not-is_comment
returns-then-not-is_comment c = sym (not_comment c.args.line.now (sym c.is_comment.ensures ∙ c.if-not-is_comment.true))

pub returns-in_default : goal.returns-in_default
returns-in_default c = sym (not_text c.args.line.now c.in_default.ensures)

pub returns : goal.returns
returns c =
    c.counts_in_fields.ensures
    ∙ (λ i. counts_in_fields (bytes_of (c.deref.ensures.value i)))
    ∙ ap counts_in_fields c.in_ok-fields.ensures.fields
    ∙ sym (says_fields c.args.line.now c.in-Some.form.now (sym c.is_comment.ensures ∙ c.if-not-is_comment.false) c.in-Some.ensures.1 c.in-Some.ensures.0)
