use Rattle.std.proofs.Common.{arith, ap, map, sym, ◌∙◌}
use Rattle.std.proofs.lemmas.List.{take_all}
use Rattle.pid_moderation.specs.ItemPairs.{pair_of}
use Rattle.pid_service.proofs.TopItems.{one_copied}
use Rattle.pid_service.proofs.top.copied.Goals as goal

pub loop-item-preserved : goal.loop-item-preserved
loop-item-preserved c =
    one_copied c.args.items.now c.loop-item.item-index c.item-item.result c.loop-item.copy.items c.add_copy.new.copy.items (omega (arith, c.loop-item-test.true)) (sym c.item-item.is)
    c.loop-item.invariant (c.add_copy.ensures c.if-not-add_copy.false)

pub returns : goal.returns
returns c = c.loop-item.invariant ∙ ap (map pair_of) (take_all c.loop-item.item-index c.args.items.now (omega (arith, c.loop-item-test.false)))
