use Rattle.std.proofs.Common.{sym}
use Rattle.std.proofs.lemmas.Bool.{false≢true}
use Rattle.pid_tables.proofs.OfCheck.AuthorFacts.{by_place, by_none}
use Rattle.pid_tables.proofs.check.authors.is_by.Goals as goal

pub returns-in-Some : goal.returns-in-Some
returns-in-Some c rows are =
    let it = by_place c.args.authors.now rows are c.args.submission c.args.account.now c.utf8.account c.in-Some.place (sym c.in-Some.ensures) in
    (λ yes. it.0 (c.has_place.ensures.0 yes), λ by. c.has_place.ensures.1 (it.1 by))

pub returns-in-None : goal.returns-in-None
returns-in-None c rows are = (λ no. absurd (false≢true no), λ by. absurd (by_none c.args.authors.now rows are c.args.submission c.args.account.now c.utf8.account (sym c.in-None.ensures) by))
