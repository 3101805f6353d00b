use Rattle.pid_file.specs.Printing.{print}
use Rattle.pid_file.specs.Steps.Printing.{text_or_none}
use Rattle.pid_file.proofs.Written.{IsWritten}
use Rattle.pid_file.proofs.print.write_canonical.Given as goal

abbrev pub invariant-loop-path : goal.invariant-loop-path
invariant-loop-path g l = IsWritten (g.W.Output.taken l.fn.out) (g.W.Output.taken l.out) (print l.tree) (text_or_none l.before) l.path-iterator
