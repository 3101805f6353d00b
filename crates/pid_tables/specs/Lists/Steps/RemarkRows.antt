-- What a query of a page of remarks answers.
use Rattle.std.specs.Prelude.{ℕ, ◌<◌, ◌^◌, [], ◌∷◌, ◌++◌}
use Rattle.sqlite.specs.Order.{Row}
use Rattle.pid_moderation.specs.Views.{Remark}
use Rattle.pid_tables.specs.Rows.Causes.{IsReadableRemark}
use Rattle.pid_tables.specs.Rows.Steps.Answers.{remark_shown}
use Rattle.pid_tables.specs.Rows.TableRows.{number}

-- a remark, and its place after it
abbrev pub placed_row : ℕ × Remark → Row
placed_row p = remark_shown p.1 ++ number p.0 ∷ []

-- its words keep their rules, and its place fits 32 bits
abbrev pub IsReadablePlaced : ℕ × Remark → Type 0
IsReadablePlaced p = (p.0 < 2 ^ 32) × IsReadableRemark p.1
