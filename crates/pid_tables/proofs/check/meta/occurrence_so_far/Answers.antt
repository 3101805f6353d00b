use Rattle.std.proofs.Common.{subst}
use Rattle.pid_tables.specs.Check.Steps.Labels.{IsToldOfLabel}
use Rattle.pid_tables.specs.declared.check.meta.Occurrence.{Occurrence}
use Rattle.pid_tables.proofs.OfCheck.LabelFacts.{told_skipped, told_first, told_again, told_other, told_more}
use Rattle.pid_tables.proofs.check.meta.occurrence_so_far.Goals as goal

pub returns-in_default : goal.returns-in_default
returns-in_default c rows was = told_skipped c.args.label.now rows c.args.row.now c.in_default.ensures.none c.args.told was

pub returns-in-Never : goal.returns-in-Never
returns-in-Never c rows was = told_first c.args.label.now rows c.args.row.now c.in-Some.number c.in-Some.ensures.found (subst (λ (t : Occurrence). IsToldOfLabel c.args.label.now rows t) c.in-Never.is was)

pub returns-then-one-number : goal.returns-then-one-number
returns-then-one-number c rows was = told_again c.args.label.now rows c.args.row.now c.in-Some.number c.in-Once.one c.in-Some.ensures.found c.if-one-number.true (subst (λ (t : Occurrence). IsToldOfLabel c.args.label.now rows t) c.in-Once.is was)

pub returns-else-one-number : goal.returns-else-one-number
returns-else-one-number c rows was = told_other c.args.label.now rows c.args.row.now c.in-Some.number c.in-Once.one c.in-Some.ensures.found c.if-one-number.false (subst (λ (t : Occurrence). IsToldOfLabel c.args.label.now rows t) c.in-Once.is was)

pub returns-in-Several : goal.returns-in-Several
returns-in-Several c rows was = told_more c.args.label.now rows c.args.row.now (subst (λ (t : Occurrence). IsToldOfLabel c.args.label.now rows t) c.in-Several.is was)
