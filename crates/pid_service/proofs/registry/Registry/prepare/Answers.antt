use Rattle.pid_service.proofs.QueriesMet.{promised}
use Rattle.pid_service.proofs.Questions.{answered_here, answers_then, failed_here}
use Rattle.pid_service.proofs.registry.Registry.prepare.Goals as goal

pub returns-then-not-self : goal.returns-then-not-self
returns-then-not-self g c =
    promised g.C.Database c.args.self.now _ _ _
    (failed_here g.C.Database c.args.self.now _ c.if-not-self.true c.args.self.now.tables.settled)

pub loop-part-init : goal.loop-part-init
loop-part-init g c = answered_here g.C.Database c.args.self.now _ _ c.if-not-self.false c.args.self.now.tables.settled (λ clean h shows. tt)

pub loop-part-preserved : goal.loop-part-preserved
loop-part-preserved g c = answers_then g.C.Database c.args.self.now c.loop-part.self c.keep.new.self _ _ _ _ c.loop-part.invariant c.in-Ok.ensures

pub returns-in-Err : goal.returns-in-Err
returns-in-Err g c =
    promised g.C.Database c.args.self.now _ _ _
    (answers_then g.C.Database c.args.self.now c.loop-part.self c.keep.new.self _ _ _ _ c.loop-part.invariant c.in-Err.ensures)

pub returns : goal.returns
returns g c = promised g.C.Database c.args.self.now _ _ _ c.loop-part.invariant
