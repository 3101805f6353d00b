use Rattle.std.proofs.Common.{◌≡◌, ◌∙◌, length, refl, sym}
use Rattle.std.proofs.lemmas.Bool.{false≢true}
use Rattle.pid_tables.proofs.OfCheck.RemarkFacts.{remark_made, num_of, place_of, author_of, body_of}
use Rattle.pid_tables.proofs.OfCheck.Telling.{off_on}
use Rattle.pid_tables.proofs.check.remark.is_remark_row.Goals as goal

pub returns : goal.returns
returns c =
    let r = c.args.row.now in
    let len : length r ≡ 4 = sym c.column_count.ensures ∙ c.if-column_count-ne4.false in
    (λ yes. remark_made r len (c.if-not-has_number.ensures.0 refl) (c.if-not-has_number-2.ensures.0 refl) (c.if-not-has_words.ensures.0 refl) (c.has_filled_text.ensures.0 yes), λ it. c.has_filled_text.ensures.1 (body_of r it))

-- ---- a column that is none of a remark's

pub returns-then-not-has_number : goal.returns-then-not-has_number
returns-then-not-has_number c = (λ no. absurd (false≢true no), λ it. absurd (off_on _ c.if-not-has_number.true (c.has_number.ensures.1 (num_of c.args.row.now it))))

pub returns-then-not-has_number-2 : goal.returns-then-not-has_number-2
returns-then-not-has_number-2 c = (λ no. absurd (false≢true no), λ it. absurd (off_on _ c.if-not-has_number-2.true (c.has_number-2.ensures.1 (place_of c.args.row.now it))))

pub returns-then-not-has_words : goal.returns-then-not-has_words
returns-then-not-has_words c = (λ no. absurd (false≢true no), λ it. absurd (off_on _ c.if-not-has_words.true (c.has_words.ensures.1 (author_of c.args.row.now it))))
