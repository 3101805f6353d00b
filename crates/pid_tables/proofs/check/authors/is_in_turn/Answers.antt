use Rattle.std.proofs.Common.{arith}
use Rattle.std.proofs.lemmas.Bool.{false≢true}
use Rattle.pid_tables.proofs.check.authors.is_in_turn.Goals as goal

pub returns-then-submission-eq0 : goal.returns-then-submission-eq0
returns-then-submission-eq0 c = (λ no. absurd (false≢true no), λ it. absurd (omega (arith, it.1, c.if-submission-eq0.true)))
