use Rattle.std.proofs.Common.{◌≡◌, filter, map, take}
use Rattle.pid_service.proofs.Words.{changed_of, comes_after, start_text}
use Rattle.pid_service.proofs.changes.later_items.Given as goal

abbrev pub invariant-loop-item : goal.invariant-loop-item
invariant-loop-item l = map changed_of l.page.items ≡ filter (comes_after l.since (start_text l.after)) (map changed_of (take l.item-index l.items))
