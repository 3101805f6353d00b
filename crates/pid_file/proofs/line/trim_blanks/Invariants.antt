use Rattle.std.proofs.Common.{◌≡◌, length}
use Rattle.pid_file.specs.Marks.{trim_blanks}
use Rattle.pid_file.proofs.line.trim_blanks.Given as goal

abbrev pub invariant-loop-rest : goal.invariant-loop-rest
invariant-loop-rest l = trim_blanks l.rest ≡ trim_blanks l.bytes

abbrev pub decreases-loop-rest : goal.decreases-loop-rest
decreases-loop-rest l = length l.rest
