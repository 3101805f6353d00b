use Rattle.std.proofs.lemmas.Bool.{false≢true}
use Rattle.pid_tables.proofs.OfCheck.ItemFacts.{path_skipped, path_added}
use Rattle.pid_tables.proofs.check.item.add_path.Goals as goal

pub returns-in-None-clause-added : goal.returns-in-None-clause-added
returns-in-None-clause-added c rows = path_skipped c.args.paths.now rows c.args.row.now c.in-None.ensures.none

pub returns-in-None-clause-there : goal.returns-in-None-clause-there
returns-in-None-clause-there c = (λ no. absurd (false≢true no), λ it. absurd (c.in-None.ensures.none it.0 it.1 it.2))

pub returns-in-Ok-clause-added : goal.returns-in-Ok-clause-added
returns-in-Ok-clause-added c rows = path_added c.args.paths.now c.insert.new.self rows c.args.row.now c.in-Some.path c.in-Some.ensures.found.0 c.in-Some.ensures.found.1 c.in-Ok.ensures.updates.0
