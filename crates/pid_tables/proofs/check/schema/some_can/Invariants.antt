use Rattle.std.proofs.Common.{◌≡◌, ℕ, ◌↔◌, ◌<◌, IsTrue, get_or}
use Rattle.sqlite.specs.State.{HasCleanDisk}
use Rattle.pid_tables.specs.declared.check.schema.Table.{Table}
use Rattle.pid_tables.specs.Check.Queries.{query_of}
use Rattle.pid_tables.specs.Check.Shapes.{CanBeAsked}
use Rattle.pid_tables.proofs.OfCheck.Asking.{IsSame}
use Rattle.pid_tables.proofs.check.schema.some_can.Given as goal

abbrev pub invariant-loop-table : goal.invariant-loop-table
invariant-loop-table g l = IsSame (g.C.Database.state l.fn.tables.conn) (g.C.Database.state l.tables.conn) × (HasCleanDisk (g.C.Database.state l.tables.conn) → (k : ℕ) (d : Table) → k < l.table-index → ¬ (IsTrue l.can ↔ CanBeAsked (g.C.Database.state l.fn.tables.conn).now.schema (query_of (get_or l.listed k d))))
    × (l.table-index ≡ 0 → l.tables.conn ≡ l.fn.tables.conn) × (HasCleanDisk (g.C.Database.state l.tables.conn) → 0 < l.table-index → IsTrue (g.C.Database.state l.fn.tables.conn).is_open)
