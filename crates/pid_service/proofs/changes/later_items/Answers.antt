use Rattle.std.proofs.Common.{arith, ap, filter, map, sym, List, ◌∙◌}
use Rattle.std.proofs.lemmas.List.{take_all}
use Rattle.pid_service.proofs.Words.{changed_of, ChangedItem, comes_after, start_text}
use Rattle.pid_service.proofs.ChangedLists.{one_later}
use Rattle.pid_service.proofs.changes.later_items.Goals as goal

pub loop-item-preserved : goal.loop-item-preserved
loop-item-preserved c =
    one_later (comes_after c.args.since (start_text c.args.after)) c.args.items.now c.loop-item.item-index c.item-item.result c.loop-item.page.items c.add_later.new.page.items (omega (arith, c.loop-item-test.true)) (sym c.item-item.is)
    c.loop-item.invariant (c.add_later.ensures c.if-not-add_later.false)

pub returns : goal.returns
returns c =
    c.loop-item.invariant ∙ ap (λ (l : List ChangedItem). filter (comes_after c.args.since (start_text c.args.after)) (map changed_of l)) (take_all c.loop-item.item-index c.args.items.now (omega (arith, c.loop-item-test.false)))
