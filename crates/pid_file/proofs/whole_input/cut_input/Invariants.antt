use Rattle.std.proofs.Common.{ℕ, List}
use Rattle.pid_file.proofs.FrontEnds.{HasRead, HasFed}
use Rattle.pid_file.proofs.whole_input.cut_input.Given as goal

abbrev pub invariant-loop-outcome : goal.invariant-loop-outcome
invariant-loop-outcome g l = (front : List ℕ) × HasRead (g.I.Input.to_come l.fn.input) (g.I.Input.to_come l.input) l.limit l.room front × HasFed g.K.Sink.takes g.K.Sink.faults l.text l.outcome l.fn.sink l.sink front × g.I.Input.goes l.fn.input l.input

abbrev pub decreases-loop-outcome : goal.decreases-loop-outcome
decreases-loop-outcome g l = l.room
