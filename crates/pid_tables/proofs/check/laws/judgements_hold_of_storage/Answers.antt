use Rattle.pid_tables.proofs.OfCheck.Telling.{told_stored}
use Rattle.pid_tables.proofs.check.laws.judgements_hold_of_storage.Goals as goal

pub returns : goal.returns
returns c = told_stored
