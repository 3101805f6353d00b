use Rattle.std.proofs.Common.{◌≡◌, ◌∙◌, length, sym}
use Rattle.std.proofs.lemmas.Bool.{false≢true}
use Rattle.pid_tables.proofs.OfCheck.Telling.{off_on}
use Rattle.pid_tables.proofs.OfCheck.SinceFacts.{since_made, since_length, since_path, since_number}
use Rattle.pid_tables.proofs.check.since.is_since_row.Goals as goal

pub returns-then-not-has_path : goal.returns-then-not-has_path
returns-then-not-has_path c known = (λ no. absurd (false≢true no), λ it. absurd (off_on c.args.has_path c.if-not-has_path.true (known.1 (since_path c.args.revision c.args.row.now it))))

pub returns-then-column_count-ne2 : goal.returns-then-column_count-ne2
returns-then-column_count-ne2 c known = (λ no. absurd (false≢true no), λ it. let two = since_length c.args.revision c.args.row.now it in absurd (c.if-column_count-ne2.true (c.column_count.ensures ∙ two)))

pub returns : goal.returns
returns c known =
    let r = c.args.row.now in
    let len : length r ≡ 2 = sym c.column_count.ensures ∙ c.if-column_count-ne2.false in
    (λ yes. since_made c.args.revision r len (known.0 c.if-not-has_path.false) (c.is_within.ensures.0 yes), λ it. c.is_within.ensures.1 (since_number c.args.revision r it))
