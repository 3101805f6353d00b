use Rattle.std.proofs.Common.{◌≡◌, ◌≤◌, true, length, take, map, vec_capacity, vec_len}
use Rattle.std.specs.List.{AllByRecursion}
use Rattle.pid_service.specs.Registries.{HasCleanDisk}
use Rattle.pid_service.proofs.Words.{after_all, answers, asks, History, is_live, KeepsLimit, ObeysInTurn, ReplyIsNotFailed, Shows}
use Rattle.pid_service.proofs.registry.Registry.run.Given as goal

abbrev pub invariant-loop-command : goal.invariant-loop-command
invariant-loop-command g l =
    (vec_len l.replies ≡ l.command-index) × (length l.replies.items ≡ l.command-index) × (length l.commands ≤ vec_capacity l.replies)
    × (HasCleanDisk g.C.Database l.self → HasCleanDisk g.C.Database l.fn.self)
    × (HasCleanDisk g.C.Database l.self → (h : History) → Shows g.C.Database l.fn.self h
    → (l.replies.items ≡ answers h (take l.command-index (map asks l.commands))) × Shows g.C.Database l.self (after_all h (take l.command-index (map asks l.commands))))
    × (is_live l.fn.self ≡ true → is_live l.self ≡ true)
    × (is_live l.fn.self ≡ true → AllByRecursion ReplyIsNotFailed l.replies.items)
    × KeepsLimit g.C.Database l.fn.self l.self
    × ObeysInTurn g.C.Database (take l.command-index l.commands) l.replies.items l.fn.self l.self
