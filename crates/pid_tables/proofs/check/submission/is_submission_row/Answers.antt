use Rattle.std.proofs.Common.{◌≡◌, length, refl, sym, ◌∙◌, arith}
use Rattle.std.proofs.lemmas.Bool.{false≢true}
use Rattle.pid_tables.proofs.OfCheck.SubmissionFacts.{submission_made, author_of, stands_of}
use Rattle.pid_tables.proofs.check.submission.is_submission_row.Goals as goal

pub returns-then-num-eq0 : goal.returns-then-num-eq0
returns-then-num-eq0 c first = (λ no. absurd (false≢true no), λ it. absurd (omega (arith, it.within.0, it.within.1, c.if-num-eq0.true)))

pub returns-in_default : goal.returns-in_default
returns-in_default c first = (λ no. absurd (false≢true no), λ it. let of = author_of c.args.names.now c.args.row.now c.args.num it in absurd (c.in_default.ensures.none of.0 of.1 of.2.0))

pub returns-then-not-contains : goal.returns-then-not-contains
returns-then-not-contains c first = (λ no. absurd (false≢true no), λ it. let of = stands_of c.args.names.now c.args.row.now c.args.num c.in-Some.author.now c.in-Some.ensures.found it in absurd (false≢true (c.if-not-contains.ensures ∙ of.0.1)))

pub returns : goal.returns
returns c first =
    let r = c.args.row.now in
    let names = c.args.names.now in
    let num = c.args.num in
    let author = c.in-Some.author.now in
    let len : length r ≡ 9 = sym c.column_count.ensures ∙ c.if-column_count-ne9.false in
    let found = c.in-Some.ensures.found in (
      λ yes. submission_made names num r author len (num, first, omega (arith, c.if-num-eq0.false), omega arith) (c.if-not-has_path.ensures.0 refl) (c.if-not-proposes.ensures.0 refl) (c.if-not-has_text.ensures.0 refl) found ((c.in-Some.ensures.utf8, sym c.if-not-contains.ensures), c.is_decided.ensures.0 yes),
      λ it. c.is_decided.ensures.1 (stands_of names r num author found it).1,
    )
