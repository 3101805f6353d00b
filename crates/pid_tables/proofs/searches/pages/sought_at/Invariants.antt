use Rattle.std.specs.Option.{option_copied}
use Rattle.pid_moderation.specs.Views.{Views}
use Rattle.pid_tables.specs.Rows.Clauses.{AtRest, HasCleanDisk, OnlyReads}
use Rattle.pid_tables.proofs.OfSearches.AmongLemmas.{HasFirst}
use Rattle.pid_tables.proofs.searches.pages.sought_at.Given as goal

abbrev pub invariant-loop-at : goal.invariant-loop-at
invariant-loop-at g l =
    OnlyReads g.C.Database.state l.initial.tables.conn l.tables.conn
    × (HasCleanDisk g.C.Database.state l.tables.conn → (v : Views) → AtRest g.C.Database.state l.initial.tables.conn v
    → HasFirst (option_copied l.path) (option_copied l.author) v l.numbers l.at l.page.items)
