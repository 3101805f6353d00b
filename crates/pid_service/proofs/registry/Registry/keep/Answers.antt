use Rattle.pid_service.proofs.QueriesMet.{finds}
use Rattle.pid_service.proofs.Questions.{answers_kept, answers_then}
use Rattle.pid_service.proofs.registry.Registry.keep.Goals as goal

pub returns-in-Pending : goal.returns-in-Pending
returns-in-Pending g c = c.keep_pending.ensures

pub returns-in-Numbers : goal.returns-in-Numbers
returns-in-Numbers g c = c.keep_numbers.ensures

pub returns-in-Top : goal.returns-in-Top
returns-in-Top g c = answers_kept g.C.Database c.args.self.now c.children.new.self c.children.result c.unless_short.result _ c.unless_short.ensures (finds g.C.Database _ _ _ _ c.children.ensures)

pub returns-in-Ok : goal.returns-in-Ok
returns-in-Ok g c =
    answers_then g.C.Database c.args.self.now c.status.new.self c.changes.new.self c.in-Ok.status c.unless_short-in-Ok.result _ _ (finds g.C.Database _ _ _ _ c.in-Ok.ensures)
    (answers_kept g.C.Database c.status.new.self c.changes.new.self c.changes.result c.unless_short-in-Ok.result _ c.unless_short-in-Ok.ensures (finds g.C.Database _ _ _ _ c.changes.ensures))

pub returns-in-Err : goal.returns-in-Err
returns-in-Err g c = answers_kept g.C.Database c.args.self.now c.status.new.self _ c.unless_short-in-Err.result _ c.unless_short-in-Err.ensures (finds g.C.Database _ _ _ _ c.in-Err.ensures)

pub returns-in-Text : goal.returns-in-Text
returns-in-Text g c = answers_kept g.C.Database c.args.self.now c.export_length.new.self c.export_length.result c.unless_short-in-Text.result _ c.unless_short-in-Text.ensures (finds g.C.Database _ _ _ _ c.export_length.ensures)
