use Rattle.pid_journal.proofs.Ending.{cut_part, cut_whole}
use Rattle.pid_journal.proofs.reopening.cut_torn.Goals as goal

pub returns-in-Ok : goal.returns-in-Ok
returns-in-Ok g c =
    cut_whole g.F.JournalFolder c.args.folder.now c.cut.new.self c.args.text.now c.begin.result c.left-torn.result c.begin.ensures c.left-torn.ensures c.cut.ensures.same c.cut.ensures.unopened c.cut.ensures.others c.in-Ok.ensures.cut

pub returns-in-Err : goal.returns-in-Err
returns-in-Err g c =
    cut_part g.F.JournalFolder c.args.folder.now c.cut.new.self c.args.text.now c.begin.result c.left-torn.result _ c.begin.ensures c.left-torn.ensures c.cut.ensures.same c.cut.ensures.unopened c.cut.ensures.others c.in-Err.ensures.cut tt
