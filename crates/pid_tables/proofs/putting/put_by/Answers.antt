use Rattle.std.proofs.Common.{◌∙◌}
use Rattle.pid_tables.proofs.PutLemmas.{text_there}
use Rattle.pid_tables.proofs.putting.put_by.Goals as goal

pub returns-in-Err : goal.returns-in-Err
returns-in-Err c found first = absurd (c.in-Err.ensures.no_text.1 (text_there found c.in-Some.row.now (c.in-Some.ensures.value ∙ first)))
