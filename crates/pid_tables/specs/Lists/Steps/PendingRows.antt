-- What a query of pending submissions answers.
use Rattle.std.specs.Prelude.{◌≡◌, ℕ, ◌<◌, ◌^◌, List, [], ◌∷◌, ◌++◌, Some, map}
use Rattle.std.specs.List.{AllByRecursion}
use Rattle.sqlite.specs.Order.{Row}
use Rattle.pid_moderation.specs.Views.{Views}
use Rattle.pid_tables.specs.Rows.Answers.{standing_row}
use Rattle.pid_tables.specs.Rows.Causes.{IsReadableSubmission, IsReadableState}
use Rattle.pid_moderation.specs.Submissions.{standing_in, Standing}
use Rattle.pid_tables.specs.Rows.Shows.{AreViews}
use Rattle.pid_tables.specs.Rows.TableRows.{number}

-- a submission as it stands, and its number after it
abbrev pub pending_row : ℕ × Standing → Row
pending_row s = standing_row s.1 ++ number s.0 ∷ []

-- its words keep their rules, and its number fits 32 bits
abbrev pub IsReadablePending : ℕ × Standing → Type 0
IsReadablePending s = (s.0 < 2 ^ 32) × IsReadableSubmission s.1.submitted
    × IsReadableState s.1.state

-- each of them is so in the views
abbrev pub AreStandingIn : Views → List (ℕ × Standing) → Type 0
AreStandingIn v all = AllByRecursion (λ (s : ℕ × Standing). standing_in v s.0 ≡ Some s.1) all

-- they are so in views, and these are their rows
abbrev pub ArePendingIn : Views → List (ℕ × Standing) → List Row → Type 0
ArePendingIn v all rows = AreViews v × AreStandingIn v all × (rows ≡ map pending_row all)

-- the same of one
abbrev pub IsPendingIn : Views → ℕ × Standing → Row → Type 0
IsPendingIn v s row = AreViews v × AreStandingIn v (s ∷ []) × (row ≡ pending_row s)
