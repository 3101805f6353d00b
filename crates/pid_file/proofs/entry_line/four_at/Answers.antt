use Rattle.pid_file.proofs.LineLemmas.{four_is, no_four_front, no_four_after}
use Rattle.pid_file.proofs.entry_line.four_at.Goals as goal

pub returns-in_err-high : goal.returns-in_err-high
returns-in_err-high c = rw c.from_residual.ensures (no_four_front c.args.bytes.now c.in_err-high.ensures)

pub returns-in_err-low : goal.returns-in_err-low
returns-in_err-low c = rw c.from_residual-in_err-low.ensures (no_four_after c.args.bytes.now c.in_ok-high.behind.now c.in_ok-high.high c.in_ok-high.ensures c.in_err-low.ensures)

pub returns : goal.returns
returns c = four_is c.args.bytes.now c.in_ok-high.behind.now c.in_ok-low.behind.now c.in_ok-high.high c.in_ok-low.low c.in_ok-high.ensures c.in_ok-low.ensures
