use Rattle.std.proofs.Common.{rules, arith}
use Rattle.pid_http_stream.proofs.Closing.{blank_dropped, other_kept, all_trimmed}
use Rattle.pid_http_stream.proofs.connection.trim_end.Goals as goal
use Rattle.pid_http_stream.proofs.connection.trim_end.Goals.{then-not-is_space_or_tab, else-not-is_space_or_tab}

pub loop-i-preserved : goal.loop-i-preserved
loop-i-preserved c = elim c.if-not-is_space_or_tab.branch [
  | then-not-is_space_or_tab w ↦ (rw w.end-is (record { below = omega arith; same = other_kept c.args.word.now c.loop-i.i c.loop-i-test.true (search rules) }))
  | else-not-is_space_or_tab w ↦ (rw w.end-is (record { below = omega arith; same = blank_dropped c.args.word.now c.loop-i.end c.loop-i.i c.loop-i-test.true (search rules) c.loop-i.invariant.same }))
]

pub returns : goal.returns
returns c = all_trimmed c.args.word.now c.loop-i.end c.loop-i.i (search rules) c.loop-i.invariant.same
