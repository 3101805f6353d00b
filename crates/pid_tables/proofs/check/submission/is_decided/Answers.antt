use Rattle.std.proofs.Common.{◌≡◌, ap, refl, ◌∙◌}
use Rattle.std.proofs.lemmas.Bool.{false≢true}
use Rattle.sqlite.specs.Order.{column}
use Rattle.pid_tables.specs.Rows.TableRows.{number}
use Rattle.pid_tables.proofs.OfCheck.Telling.{off_on}
use Rattle.pid_tables.proofs.OfCheck.SubmissionFacts.{pending, withdrawn, pending_parts, withdrawn_parts, approved, rejected, approved_by, rejected_by, approved_reason, rejected_reason}
use Rattle.pid_tables.proofs.check.submission.is_decided.Goals as goal

pub returns-then-is_text_at : goal.returns-then-is_text_at
returns-then-is_text_at c =
    let e : column c.args.row.now 6 ≡ number 0 = c.in-Some-eq0.ensures.found ∙ ap number c.in-Some-eq0.field-0-test in
    let names = c.args.names.now in
    let author = c.args.author.now in (
      λ yes. pending names c.args.row.now author e (c.if-is_text_at.ensures.0 refl) (c.is_text_at-then-is_text_at.ensures.0 yes),
      λ it. c.is_text_at-then-is_text_at.ensures.1 (pending_parts names c.args.row.now author e it).1,
    )

pub returns-else-is_text_at : goal.returns-else-is_text_at
returns-else-is_text_at c =
    let e : column c.args.row.now 6 ≡ number 0 = c.in-Some-eq0.ensures.found ∙ ap number c.in-Some-eq0.field-0-test in
    (λ yes. absurd (off_on _ c.if-is_text_at.false yes), λ it. absurd (false≢true (c.if-is_text_at.ensures.1 (pending_parts c.args.names.now c.args.row.now c.args.author.now e it).0)))

pub returns-then-is_by_other : goal.returns-then-is_by_other
returns-then-is_by_other c =
    let e : column c.args.row.now 6 ≡ number 1 = c.in-Some-eq1.ensures.found ∙ ap number c.in-Some-eq1.field-0-test in
    let names = c.args.names.now in
    let author = c.args.author.now in (
      λ yes. approved names c.args.row.now author e (c.if-is_by_other.ensures.0 refl) (c.is_text_at-then-is_by_other.ensures.0 yes),
      λ it. c.is_text_at-then-is_by_other.ensures.1 (approved_reason names c.args.row.now author e it),
    )

pub returns-else-is_by_other : goal.returns-else-is_by_other
returns-else-is_by_other c =
    let e : column c.args.row.now 6 ≡ number 1 = c.in-Some-eq1.ensures.found ∙ ap number c.in-Some-eq1.field-0-test in
    (λ yes. absurd (off_on _ c.if-is_by_other.false yes), λ it. absurd (false≢true (c.if-is_by_other.ensures.1 (approved_by c.args.names.now c.args.row.now c.args.author.now e it))))

pub returns-then-is_by_other-2 : goal.returns-then-is_by_other-2
returns-then-is_by_other-2 c =
    let e : column c.args.row.now 6 ≡ number 2 = c.in-Some-eq2.ensures.found ∙ ap number c.in-Some-eq2.field-0-test in
    let names = c.args.names.now in
    let author = c.args.author.now in (
      λ yes. rejected names c.args.row.now author e (c.if-is_by_other-2.ensures.0 refl) (c.has_filled_text.ensures.0 yes),
      λ it. c.has_filled_text.ensures.1 (rejected_reason names c.args.row.now author e it),
    )

pub returns-else-is_by_other-2 : goal.returns-else-is_by_other-2
returns-else-is_by_other-2 c =
    let e : column c.args.row.now 6 ≡ number 2 = c.in-Some-eq2.ensures.found ∙ ap number c.in-Some-eq2.field-0-test in
    (λ yes. absurd (off_on _ c.if-is_by_other-2.false yes), λ it. absurd (false≢true (c.if-is_by_other-2.ensures.1 (rejected_by c.args.names.now c.args.row.now c.args.author.now e it))))

pub returns-then-is_text_at-2 : goal.returns-then-is_text_at-2
returns-then-is_text_at-2 c =
    let e : column c.args.row.now 6 ≡ number 3 = c.in-Some-eq3.ensures.found ∙ ap number c.in-Some-eq3.field-0-test in
    let names = c.args.names.now in
    let author = c.args.author.now in (
      λ yes. withdrawn names c.args.row.now author e (c.if-is_text_at-2.ensures.0 refl) (c.is_text_at-then-is_text_at-2.ensures.0 yes),
      λ it. c.is_text_at-then-is_text_at-2.ensures.1 (withdrawn_parts names c.args.row.now author e it).1,
    )

pub returns-else-is_text_at-2 : goal.returns-else-is_text_at-2
returns-else-is_text_at-2 c =
    let e : column c.args.row.now 6 ≡ number 3 = c.in-Some-eq3.ensures.found ∙ ap number c.in-Some-eq3.field-0-test in
    (λ yes. absurd (off_on _ c.if-is_text_at-2.false yes), λ it. absurd (false≢true (c.if-is_text_at-2.ensures.1 (withdrawn_parts c.args.names.now c.args.row.now c.args.author.now e it).0)))
