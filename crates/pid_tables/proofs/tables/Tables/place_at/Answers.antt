use Rattle.std.proofs.Common.{Err, refl}
use Rattle.pid_tables.proofs.OfRows.OnlyReading.{reads_then}
use Rattle.pid_tables.proofs.ThenReads.{fault_after, fault_first, value_after}
use Rattle.pid_tables.proofs.tables.Tables.place_at.Goals as goal

pub returns-in_err-items : goal.returns-in_err-items
returns-in_err-items g c = fault_first g.C.Database.state c.args.self.now.conn c.items.new.self.conn c.in_err-items.field-0.0 c.from_residual.result c.from_residual.ensures.1 c.in_err-items.ensures

pub returns-in_err-has_parent : goal.returns-in_err-has_parent
returns-in_err-has_parent g c =
    fault_after g.C.Database.state c.args.self.now.conn c.items.new.self.conn c.has_parent.new.self.conn c.items.ensures.rests c.in_err-has_parent.field-0.0 c.from_residual-in_err-has_parent.result c.from_residual-in_err-has_parent.ensures.1 c.in_err-has_parent.ensures

pub returns-in_err-has_children : goal.returns-in_err-has_children
returns-in_err-has_children g c =
    fault_after g.C.Database.state c.args.self.now.conn c.has_parent.new.self.conn c.has_children.new.tables.conn (reads_then _ _ _ c.items.ensures.rests c.has_parent.ensures.rests) c.in_err-has_children.field-0.0
    c.from_residual-in_err-has_children.result c.from_residual-in_err-has_children.ensures.1 c.in_err-has_children.ensures

pub returns-in-Err : goal.returns-in-Err
returns-in-Err g c =
    fault_after g.C.Database.state c.args.self.now.conn c.has_children.new.tables.conn c.item.new.self.conn (reads_then _ _ _ (reads_then _ _ _ c.items.ensures.rests c.has_parent.ensures.rests) c.has_children.ensures.rests) c.in-Err.fault (Err c.in-Err.fault) refl c.in-Err.ensures

pub returns-in-Ok : goal.returns-in-Ok
returns-in-Ok g c =
    value_after g.C.Database.state c.args.self.now.conn c.has_children.new.tables.conn c.item.new.self.conn (reads_then _ _ _ (reads_then _ _ _ c.items.ensures.rests c.has_parent.ensures.rests) c.has_children.ensures.rests) _ _ c.in-Ok.ensures
    (λ clean v rest there all parents.
    let late = c.has_children.ensures.rests.clean clean in
    let first = c.items.ensures.rests.kept v rest in
    let count = c.in_ok-items.ensures.told (c.has_parent.ensures.rests.clean late) v rest in
    let parent = c.in_ok-has_parent.ensures.told late v first in
    let children = c.in_ok-has_children.ensures.told clean v (c.has_parent.ensures.rests.kept v first) all parents in
    λ i. record { items = count i; present = there i; has_parent = parent i; has_children = children i })
