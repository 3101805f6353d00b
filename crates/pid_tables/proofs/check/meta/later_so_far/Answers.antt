use Rattle.std.proofs.Common.{◌≡◌, ℕ, Option, Some, None, subst, arith}
use Rattle.pid_tables.specs.Check.Steps.Labels.{IsLater}
use Rattle.pid_tables.proofs.OfCheck.LabelFacts.{later_before, later_here, one_number}
use Rattle.pid_tables.proofs.check.meta.later_so_far.Goals as goal

pub returns-in-Some : goal.returns-in-Some
returns-in-Some c rows was = later_before rows c.args.row.now c.in-Some.number (subst (λ (o : Option ℕ). IsLater rows o) c.in-Some.is was)

pub returns-in_default-labelled : goal.returns-in_default-labelled
returns-in_default-labelled c rows was = later_here rows c.args.row.now None tt (λ n later is. c.in_default-labelled.ensures.none n is) (subst (λ (o : Option ℕ). IsLater rows o) c.in_default.is was)

pub returns-then-number : goal.returns-then-number
returns-then-number c rows was = later_here rows c.args.row.now (Some c.in-Some-labelled.number) (c.if-number.true, c.in-Some-labelled.ensures.found) tt (subst (λ (o : Option ℕ). IsLater rows o) c.in_default.is was)

pub returns-else-number : goal.returns-else-number
returns-else-number c rows was =
    let r = c.args.row.now in
    let m = c.in-Some-labelled.number in
    later_here rows r None tt (λ n later is. let same : n ≡ m = one_number r _ n m is c.in-Some-labelled.ensures.found in omega (arith, later, same, c.if-number.false)) (subst (λ (o : Option ℕ). IsLater rows o) c.in_default.is was)
