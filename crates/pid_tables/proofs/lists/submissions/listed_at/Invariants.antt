use Rattle.std.proofs.Common.{◌≡◌, List, map, take}
use Rattle.pid_moderation.specs.SubmissionPages.{Listing, listed_of, listing_in}
use Rattle.pid_moderation.specs.Views.{Views}
use Rattle.pid_tables.specs.Rows.Clauses.{AtRest, HasCleanDisk, OnlyReads}
use Rattle.pid_tables.specs.Lists.ByNumber.{standings_at}
use Rattle.pid_tables.specs.Lists.Steps.SubmissionRows.{AreListedIn}
use Rattle.pid_tables.proofs.lists.submissions.listed_at.Given as goal

abbrev pub invariant-loop-row : goal.invariant-loop-row
invariant-loop-row g l =
    OnlyReads g.C.Database.state l.initial.tables.conn l.tables.conn
    × (HasCleanDisk g.C.Database.state l.tables.conn → (v : Views) (listed : List Listing) → AtRest g.C.Database.state l.initial.tables.conn v → (are : AreListedIn v listed l.rows)
    → map listed_of l.page.items ≡ map (listing_in v) (standings_at (take l.row-index are.numbers) v))
