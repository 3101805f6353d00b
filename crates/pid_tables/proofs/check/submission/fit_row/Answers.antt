use Rattle.std.proofs.Common.{refl, arith}
use Rattle.std.proofs.lemmas.Bool.{false≢true}
use Rattle.pid_tables.proofs.OfCheck.SubmissionFacts.{misfit, fits, from_own, num_of, to_own}
use Rattle.pid_tables.proofs.check.submission.fit_row.Goals as goal

pub returns-in_default : goal.returns-in_default
returns-in_default c rows are =
    let names = c.args.names.now in
    let r = c.args.row.now in
    misfit names r rows c.args.fit are (λ count it. let of = num_of names r count it in c.in_default.ensures.none of.0 of.1)

pub returns-then-not-is_submission_row : goal.returns-then-not-is_submission_row
returns-then-not-is_submission_row c rows are =
    let names = c.args.names.now in
    let r = c.args.row.now in
    let found = c.in-Some.ensures.found in
    misfit names r rows c.args.fit are (λ count it. let no = (c.if-not-is_submission_row.ensures found).1 (to_own names r c.in-Some.num count found it) in absurd (false≢true no))

pub returns : goal.returns
returns c rows are =
    let names = c.args.names.now in
    let r = c.args.row.now in
    let found = c.in-Some.ensures.found in
    let num = c.in-Some.num in
    fits names r rows c.args.fit are num c.max.result (from_own names r num found ((c.if-not-is_submission_row.ensures found).0 refl)) (λ most. (λ both. (omega (arith, both, c.max.ensures), omega (arith, both, c.max.ensures)), λ each. omega (arith, each.0, each.1, c.max.ensures)))
