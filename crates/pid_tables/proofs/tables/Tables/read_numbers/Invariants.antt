use Rattle.std.proofs.Common.{◌*◌, ◌≤◌, length, map, take}
use Rattle.pid_moderation.specs.Views.{Views}
use Rattle.pid_tables.specs.Rows.Clauses.{AtRest, HasCleanDisk, OnlyReads}
use Rattle.pid_tables.specs.Searches.Filings.{filed_as}
use Rattle.pid_tables.specs.Searches.KeptNumbers.{AreKeptFor}
use Rattle.pid_tables.proofs.tables.Tables.read_numbers.Given as goal

abbrev pub invariant-loop-time : goal.invariant-loop-time
invariant-loop-time g l =
    OnlyReads g.C.Database.state l.initial.self.conn l.self.conn
    × (HasCleanDisk g.C.Database.state l.self.conn → (v : Views) → AtRest g.C.Database.state l.initial.self.conn v
    → (l.time * 1000 ≤ length v.submits) × AreKeptFor l.kept (map filed_as (take (l.time * 1000) v.submits)))
