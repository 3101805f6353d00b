use Rattle.std.proofs.Common.{ℕ, List, length}
use Rattle.pid_file.specs.OpenTexts.{IsLeftOpen}
use Rattle.pid_file.proofs.Feeding.{IsHalfway}
use Rattle.pid_file.proofs.open_text.OpenText.take.Given as goal

abbrev pub invariant-loop-front : goal.invariant-loop-front
invariant-loop-front g l = (text : List ℕ) → IsLeftOpen l.fn.self text → IsHalfway g.S.Sink.takes l.fn.sink l.piece l.rest l.self l.sink text

abbrev pub decreases-loop-front : goal.decreases-loop-front
decreases-loop-front g l = length l.rest
