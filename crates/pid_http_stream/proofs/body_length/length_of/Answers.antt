use Rattle.std.proofs.Common.{sym, ◌∙◌, arith}
use Rattle.pid_http_stream.specs.BodyLengths.{body_length}
use Rattle.pid_http_stream.proofs.FieldWalks.{none_said, encoded_said, two_said, one_said}
use Rattle.pid_http_stream.proofs.body_length.length_of.Goals as goal

pub returns-then-count_named-gt0 : goal.returns-then-count_named-gt0
unfolding body_length
returns-then-count_named-gt0 c = sym (encoded_said _ _ (rw c.count_named.ensures at c.if-count_named-gt0.true))

pub returns-then-count_named-gt1 : goal.returns-then-count_named-gt1
unfolding body_length
returns-then-count_named-gt1 c = sym (two_said _ _ (omega (arith, c.count_named.ensures, c.if-count_named-gt0.false)) (rw c.count_named-2.ensures at c.if-count_named-gt1.true))

pub returns-in-None : goal.returns-in-None
unfolding body_length
returns-in-None c = sym (none_said _ _ (omega (arith, c.count_named.ensures, c.if-count_named-gt0.false)) (sym c.in-None.ensures))

pub returns-in-Some : goal.returns-in-Some
unfolding body_length
returns-in-Some c = c.read_length.ensures ∙ sym (one_said _ _ _ (omega (arith, c.count_named.ensures, c.if-count_named-gt0.false)) (omega (arith, c.count_named-2.ensures, c.if-count_named-gt1.false)) (sym c.in-Some.ensures))
