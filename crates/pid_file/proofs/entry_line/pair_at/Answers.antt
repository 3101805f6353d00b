use Rattle.std.proofs.Common.{arith}
use Rattle.pid_file.proofs.LineLemmas.{short_digits, pair_is, no_pair_high, no_pair_low}
use Rattle.pid_file.proofs.entry_line.pair_at.Goals as goal

pub returns-in_default : goal.returns-in_default
returns-in_default c = short_digits 2 c.args.bytes.now (omega arith)

pub returns-in_err-high : goal.returns-in_err-high
returns-in_err-high c = rw c.from_residual.ensures (no_pair_high c.args.bytes.now c.in-len2-up.len_at_least c.in_err-high.ensures)

pub returns-in_err-low : goal.returns-in_err-low
returns-in_err-low c = rw c.from_residual-in_err-low.ensures (no_pair_low c.args.bytes.now c.in-len2-up.len_at_least c.in_err-low.ensures)

pub returns : goal.returns
returns c = pair_is c.args.bytes.now c.in_ok-high.high c.in_ok-low.low c.in-len2-up.len_at_least c.in_ok-high.ensures c.in_ok-low.ensures
