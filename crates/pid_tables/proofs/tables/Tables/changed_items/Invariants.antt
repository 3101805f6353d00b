use Rattle.std.proofs.Common.{◌≡◌, List, map, take}
use Rattle.pid_moderation.specs.Views.{Views}
use Rattle.pid_tables.specs.Rows.Clauses.{AtRest, HasCleanDisk, OnlyReads}
use Rattle.pid_moderation.specs.ChangePages.{Changed, changed_of}
use Rattle.pid_tables.specs.Lists.Steps.ChangeRows.{AreChangesIn}
use Rattle.pid_tables.proofs.tables.Tables.changed_items.Given as goal

abbrev pub invariant-loop-row : goal.invariant-loop-row
invariant-loop-row g l =
    OnlyReads g.C.Database.state l.initial.self.conn l.self.conn
    × (HasCleanDisk g.C.Database.state l.self.conn → (v : Views) (all : List Changed) → AtRest g.C.Database.state l.initial.self.conn v → AreChangesIn v all l.rows
    → map changed_of l.items.items ≡ take l.row-index all)
