use Rattle.std.proofs.Common.{◌≡◌, ◌-◌, ◌∙◌, sym, subst, length, Some}
use Rattle.std.specs.List.{slice_get}
use Rattle.std.specs.Cmp.{nat_cmp_total}
use Rattle.std.specs.Ordering.{nat_cmp}
use Rattle.pid_file.proofs.Rising.{above_absent, above_rises, less_is}
use Rattle.pid_file.proofs.seen.Seen.is_above_run.Goals as goal

pub returns-in-Some-clause-absent : goal.returns-in-Some-clause-absent
returns-in-Some-clause-absent c above up =
    let last = c.in-Some.last.now in
    let at_end = subst (λ l. slice_get l (length l - 1) ≡ Some last) c.deref.ensures.value (sym c.in-Some.ensures.value) in
    above_absent nat_cmp nat_cmp_total c.args.self.now.run.items last c.args.item.now up at_end (sym c.cmp.ensures ∙ less_is c.cmp.result (sym c.is_lt.ensures ∙ above))

pub returns-in-Some-clause-rising : goal.returns-in-Some-clause-rising
returns-in-Some-clause-rising c above up =
    let last = c.in-Some.last.now in
    let at_end = subst (λ l. slice_get l (length l - 1) ≡ Some last) c.deref.ensures.value (sym c.in-Some.ensures.value) in
    above_rises nat_cmp nat_cmp_total c.args.self.now.run.items last c.args.item.now up at_end (sym c.cmp.ensures ∙ less_is c.cmp.result (sym c.is_lt.ensures ∙ above))
