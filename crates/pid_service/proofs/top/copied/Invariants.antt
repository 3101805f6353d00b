use Rattle.std.proofs.Common.{◌≡◌, map, take}
use Rattle.pid_moderation.specs.ItemPairs.{pair_of}
use Rattle.pid_service.proofs.top.copied.Given as goal

abbrev pub invariant-loop-item : goal.invariant-loop-item
invariant-loop-item l = map pair_of l.copy.items ≡ map pair_of (take l.item-index l.items)
