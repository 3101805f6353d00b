use Rattle.std.proofs.Common.{rules}
use Rattle.pid_service.proofs.RenewedChanges.{three_added}
use Rattle.pid_service.proofs.changes.with_write.Goals as goal

pub returns-then-after : goal.returns-then-after
returns-then-after c = three_added c.new-page.result.items _ _ _ _ _ _ (c.add_side-before.ensures (search rules)) (c.add_written.ensures (search rules)) (c.add_side-after.ensures c.if-after.true) c.new-page.ensures.items
