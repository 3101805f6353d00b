use Rattle.pid_journal.proofs.Reading.{text_found}
use Rattle.pid_journal.proofs.counts.text_of.Goals as goal

pub returns : goal.returns
returns c = rw c.ok.ensures.value (text_found _ _ c.from_utf8.result c.from_utf8.ensures.cases)
