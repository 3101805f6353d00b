use Rattle.std.proofs.Common.{◌≡◌, ℕ, List, map, take}
use Rattle.pid_moderation.specs.Views.{Views}
use Rattle.pid_moderation.specs.Submissions.{Standing}
use Rattle.pid_moderation.specs.PendingPages.{told_of}
use Rattle.pid_tables.specs.Lists.Steps.PendingRows.{ArePendingIn}
use Rattle.pid_tables.proofs.lists.pending.page_of.Given as goal

abbrev pub invariant-loop-row : goal.invariant-loop-row
invariant-loop-row l = (v : Views) (all : List (ℕ × Standing)) → ArePendingIn v all l.rows → map told_of l.page.items ≡ take l.row-index all
