use Rattle.std.proofs.lemmas.Bool.{false≢true}
use Rattle.pid_tables.proofs.check.receipt.has_counts.Goals as goal

-- ---- a column that has no number

pub returns-in-None : goal.returns-in-None
returns-in-None c = (λ no. absurd (false≢true no), λ has. absurd (c.in-None.ensures.none has.0 has.3))

pub returns-in-None-number_at : goal.returns-in-None-number_at
returns-in-None-number_at c = (λ no. absurd (false≢true no), λ has. absurd (c.in-None-number_at.ensures.none has.1 has.4))

pub returns-in-None-number_at-2 : goal.returns-in-None-number_at-2
returns-in-None-number_at-2 c = (λ no. absurd (false≢true no), λ has. absurd (c.in-None-number_at-2.ensures.none has.2 has.5))
