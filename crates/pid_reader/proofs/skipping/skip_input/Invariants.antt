use Rattle.std.proofs.Common.{ℕ, List}
use Rattle.pid_file.proofs.FrontEnds.{HasRead}
use Rattle.pid_reader.proofs.skipping.skip_input.Given as goal

abbrev pub invariant-loop-piece : goal.invariant-loop-piece
invariant-loop-piece g l = (front : List ℕ) × HasRead (g.I.Input.to_come l.fn.input) (g.I.Input.to_come l.input) l.limit l.room front × g.I.Input.goes l.fn.input l.input

abbrev pub decreases-loop-piece : goal.decreases-loop-piece
decreases-loop-piece g l = l.room
