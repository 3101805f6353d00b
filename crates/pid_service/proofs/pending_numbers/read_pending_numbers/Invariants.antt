use Rattle.std.proofs.Common.{◌≡◌, ◌++◌}
use Rattle.pid_tables.specs.Rows.Clauses.{AtRest, HasCleanDisk, OnlyReads}
use Rattle.pid_service.proofs.Words.{numbers_pending, Views}
use Rattle.pid_service.proofs.PendingNumbers.{pending_past}
use Rattle.pid_service.proofs.pending_numbers.read_pending_numbers.Given as goal

abbrev pub invariant-loop : goal.invariant-loop
invariant-loop g l =
    OnlyReads g.C.Database.state l.initial.tables.conn l.tables.conn
    × (HasCleanDisk g.C.Database.state l.tables.conn → (v : Views) → AtRest g.C.Database.state l.initial.tables.conn v → l.numbers.items ++ pending_past l.after v ≡ numbers_pending v)
