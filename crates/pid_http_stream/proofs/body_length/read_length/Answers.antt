use Rattle.std.proofs.Common.{rules, sym, ◌∙◌}
use Rattle.pid_http_stream.proofs.FieldWalks.{digit_more, digit_over}
use Rattle.pid_http_stream.proofs.body_length.read_length.Goals as goal
use Rattle.pid_http_stream.proofs.body_length.read_length.Goals.{then-length-le-LONGEST_BODY, else-length-le-LONGEST_BODY}

pub loop-digit-preserved : goal.loop-digit-preserved
loop-digit-preserved c = elim c.if-length-le-LONGEST_BODY.branch [
  | then-length-le-LONGEST_BODY w ↦ (rw w.length-is (digit_more _ _ _ c.loop-digit-test.true (sym c.is_ascii_digit.ensures.value ∙ c.if-not-is_ascii_digit.false) (search rules) c.loop-digit.invariant w.if-length-le-LONGEST_BODY.true))
  | else-length-le-LONGEST_BODY w ↦ (rw w.length-is (digit_over _ _ _ c.loop-digit-test.true (sym c.is_ascii_digit.ensures.value ∙ c.if-not-is_ascii_digit.false) c.loop-digit.invariant w.if-length-le-LONGEST_BODY.false))
]
