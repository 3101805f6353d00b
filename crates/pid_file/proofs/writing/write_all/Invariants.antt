use Rattle.std.proofs.Common.{◌≡◌, ℕ, ◌++◌, length, List}
use Rattle.std.specs.Io.KnownBytes.{Appends}
use Rattle.pid_file.proofs.writing.write_all.Given as goal

abbrev pub invariant-loop-rest : goal.invariant-loop-rest
invariant-loop-rest g l = (sent : List ℕ) × (l.bytes ≡ sent ++ l.rest) × Appends (g.W.Output.taken l.fn.out) (g.W.Output.taken l.out) sent

abbrev pub decreases-loop-rest : goal.decreases-loop-rest
decreases-loop-rest g l = length l.rest
