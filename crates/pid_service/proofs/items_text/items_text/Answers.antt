use Rattle.pid_service.proofs.Questions.{reads_after}
use Rattle.pid_service.proofs.items_text.items_text.Goals as goal

pub returns-in-Err-Memory : goal.returns-in-Err-Memory
returns-in-Err-Memory g c = reads_after g.C.Database c.args.tables.now.conn c.walked_text.new.tables.conn c.walked_text-in-Err-Memory.new.tables.conn c.walked_text-in-Err-Memory.result _ c.walked_text.ensures.rests c.walked_text-in-Err-Memory.ensures
