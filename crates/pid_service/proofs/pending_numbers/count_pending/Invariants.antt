use Rattle.std.proofs.Common.{◌≡◌, ◌+◌, length}
use Rattle.pid_tables.specs.Rows.Clauses.{AtRest, HasCleanDisk, OnlyReads}
use Rattle.pid_service.proofs.Words.{pending_above, Views}
use Rattle.pid_service.proofs.pending_numbers.count_pending.Given as goal

abbrev pub invariant-loop : goal.invariant-loop
invariant-loop g l =
    OnlyReads g.C.Database.state l.initial.tables.conn l.tables.conn
    × (HasCleanDisk g.C.Database.state l.tables.conn → (v : Views) → AtRest g.C.Database.state l.initial.tables.conn v → l.count + length (pending_above l.after v) ≡ length (pending_above 0 v))
