use Rattle.std.proofs.Common.{List, Result, length, ◌≤◌}
use Rattle.pid_reader.specs.declared.line_fault.LineFault.{LineFault}
use Rattle.pid_reader.specs.LinesLeft.{HasLeft}
use Rattle.pid_file.specs.Numbered.{Numbered}
use Rattle.pid_reader.proofs.lines.LinesIterator.next.Given as goal

abbrev pub invariant-loop-piece : goal.invariant-loop-piece
invariant-loop-piece l = record {
  left : (items : List (Result Numbered LineFault)) → HasLeft l.fn.self items → HasLeft l.self items;
  shorter : length l.self.rest.now ≤ length l.fn.self.rest.now;
}

abbrev pub decreases-loop-piece : goal.decreases-loop-piece
decreases-loop-piece l = length l.self.rest.now
