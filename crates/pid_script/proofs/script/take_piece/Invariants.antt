-- The lines so far were answered, and what stands behind them is kept.
use Rattle.std.proofs.Common.{length}
use Rattle.pid_script.specs.Steps.Output.{out}
use Rattle.pid_script.proofs.Pieces.{IsHalfway}
use Rattle.pid_script.proofs.script.take_piece.Given as goal

abbrev pub invariant-loop-front : goal.invariant-loop-front
invariant-loop-front g l = IsHalfway g.R.RegistryCalls l.fn.piece l.rest l.fn.registry l.registry (out g.O.Output l.fn.output l.fn.held.items) (out g.O.Output l.output l.held.items) l.fn.kept.items l.kept.items

abbrev pub decreases-loop-front : goal.decreases-loop-front
decreases-loop-front g l = length l.rest
