use Rattle.std.proofs.Common.{◌≡◌, ℕ, List, map, take}
use Rattle.pid_moderation.specs.RemarkPages.{placed_of}
use Rattle.pid_moderation.specs.Views.{Remark}
use Rattle.pid_tables.specs.Lists.Steps.RemarkRows.{placed_row}
use Rattle.pid_tables.proofs.lists.remarks.remarks_of.Given as goal

abbrev pub invariant-loop-row : goal.invariant-loop-row
invariant-loop-row l = (all : List (ℕ × Remark)) → l.rows ≡ map placed_row all → map placed_of l.page.items ≡ take l.row-index all
