use Rattle.std.proofs.Common.{rules, arith, sym, ◌∙◌}
use Rattle.pid_http_stream.proofs.Closing.{comma_step, other_step, scanned}
use Rattle.pid_http_stream.proofs.connection.names_close.Goals as goal
use Rattle.pid_http_stream.proofs.connection.names_close.Goals.{then-byte-eq44+else-is_close, else-byte-eq44}

pub loop-i-init : goal.loop-i-init
loop-i-init c = record { ordered = omega arith; same = scanned c.args.value.now }

pub loop-i-preserved : goal.loop-i-preserved
loop-i-preserved c = elim c.if-byte-eq44.branch [
  | then-byte-eq44+else-is_close w ↦ (rw w.start-is (record { ordered = omega arith; same = comma_step c.args.value.now c.loop-i.start c.loop-i.i c.loop-i-test.true w.if-byte-eq44.true (sym w.is_close.ensures ∙ w.if-is_close.false) ∙ c.loop-i.invariant.same }))
  | else-byte-eq44 w ↦ (rw w.start-is (record { ordered = omega arith; same = other_step c.args.value.now c.loop-i.start c.loop-i.i c.loop-i.invariant.ordered c.loop-i-test.true (search rules) ∙ c.loop-i.invariant.same }))
]
