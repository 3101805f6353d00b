use Rattle.std.proofs.Common.{◌≡◌, List, map, take}
use Rattle.pid_moderation.specs.Views.{Remark}
use Rattle.pid_tables.specs.Rows.Steps.Answers.{remark_shown}
use Rattle.pid_moderation.specs.Submissions.{remark_of}
use Rattle.pid_tables.proofs.lists.submission.comments_of.Given as goal

abbrev pub invariant-loop-row : goal.invariant-loop-row
invariant-loop-row l = (remarks : List Remark) → l.rows ≡ map remark_shown remarks → map remark_of l.comments.items ≡ take l.row-index remarks
