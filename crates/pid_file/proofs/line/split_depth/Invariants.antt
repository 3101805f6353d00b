use Rattle.std.proofs.Common.{◌≡◌, ◌+◌, ◌≤◌, length}
use Rattle.pid_file.specs.Marks.{depth, body}
use Rattle.pid_file.proofs.line.split_depth.Given as goal

abbrev pub invariant-loop-rest : goal.invariant-loop-rest
invariant-loop-rest l = record { depth : l.count + depth l.rest ≡ depth l.line; body : body l.rest ≡ body l.line; bound : l.count + length l.rest ≤ length l.line }

abbrev pub decreases-loop-rest : goal.decreases-loop-rest
decreases-loop-rest l = length l.rest
