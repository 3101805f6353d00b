use Rattle.std.specs.Option.{option_copied}
use Rattle.pid_moderation.specs.Views.{Views}
use Rattle.pid_tables.specs.Rows.Clauses.{AtRest, HasCleanDisk, OnlyReads}
use Rattle.pid_tables.proofs.OfSearches.PageLemmas.{HasWalked}
use Rattle.pid_tables.proofs.tables.Tables.walk.Given as goal

abbrev pub invariant-loop : goal.invariant-loop
invariant-loop g l =
    OnlyReads g.C.Database.state l.initial.self.conn l.self.conn
    × (HasCleanDisk g.C.Database.state l.self.conn → (v : Views) → AtRest g.C.Database.state l.initial.self.conn v
    → HasWalked v (record { path = option_copied l.path; author = option_copied l.author; before = l.before }) l.found.items l.next)
