use Rattle.pid_tables.proofs.OfCheck.AuthorFacts.{authors_none}
use Rattle.pid_tables.proofs.check.authors.no_authors.Goals as goal

pub returns : goal.returns
returns c = authors_none _ c.new.ensures.empty c.new-2.ensures.items c.new-3.ensures.empty
