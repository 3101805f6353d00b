use Rattle.std.proofs.Common.{sym, ◌∙◌}
use Rattle.std.proofs.lemmas.Bool.{false≢true}
use Rattle.pid_tables.proofs.OfCheck.Telling.{off_on}
use Rattle.pid_tables.proofs.OfCheck.SubmissionFacts.{other_of, differ, alike}
use Rattle.pid_tables.proofs.check.submission.is_by_other.Goals as goal

pub returns-then-ne : goal.returns-then-ne
returns-then-ne c = (
  λ yes. (c.in-Some.decider.now, c.in-Some.ensures.found, differ c.in-Some.decider.now c.args.author.now (sym c.ne.ensures ∙ c.if-ne.true), (c.in-Some.ensures.utf8, sym c.contains.ensures ∙ yes)),
  λ it. c.contains.ensures ∙ (other_of c.args.names.now c.args.row.now c.args.author.now c.in-Some.decider.now c.in-Some.ensures.found it).1.1,
)

pub returns-else-ne : goal.returns-else-ne
returns-else-ne c = (
  λ yes. absurd (off_on c.ne.result c.if-ne.false yes),
  λ it. absurd ((other_of c.args.names.now c.args.row.now c.args.author.now c.in-Some.decider.now c.in-Some.ensures.found it).0 (alike c.in-Some.decider.now c.args.author.now (sym c.ne.ensures ∙ c.if-ne.false))),
)

pub returns-in-None : goal.returns-in-None
returns-in-None c = (λ no. absurd (false≢true no), λ it. absurd (c.in-None.ensures.none it.0 it.1 it.3.0))
