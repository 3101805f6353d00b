use Rattle.std.proofs.Common.{◌≡◌, map, take}
use Rattle.pid_moderation.specs.PendingPages.{told_of}
use Rattle.pid_moderation.specs.Views.{Views}
use Rattle.pid_tables.specs.Rows.Clauses.{AtRest, HasCleanDisk, OnlyReads}
use Rattle.pid_tables.specs.Lists.ByNumber.{standings_at}
use Rattle.pid_tables.proofs.tables.Tables.pending_at.Given as goal

abbrev pub invariant-loop-number : goal.invariant-loop-number
invariant-loop-number g l =
    OnlyReads g.C.Database.state l.initial.self.conn l.self.conn
    × (HasCleanDisk g.C.Database.state l.self.conn → (v : Views) → AtRest g.C.Database.state l.initial.self.conn v → map told_of l.page.items ≡ standings_at (take l.number-index l.numbers) v)
