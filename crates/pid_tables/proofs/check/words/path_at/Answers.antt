use Rattle.pid_tables.proofs.OfCheck.PathWords.{path_utf8}
use Rattle.pid_tables.proofs.check.words.path_at.Goals as goal

pub returns-in-None-clause-none : goal.returns-in-None-clause-none
returns-in-None-clause-none c p range is = c.in-None.ensures.none _ is (path_utf8 p)
