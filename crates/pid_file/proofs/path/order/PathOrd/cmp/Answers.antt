use Rattle.std.proofs.Common.{◌≡◌, true, false, eqb, sym, ◌∙◌, rules}
use Rattle.std.specs.Ordering.{nat_cmp}
use Rattle.pid_file.proofs.PathOrder.{by_head, by_rest}
use Rattle.pid_file.proofs.path.order.PathOrd.cmp.Goals as goal

pub returns-then-mine-theirs : goal.returns-then-mine-theirs
returns-then-mine-theirs c =
    let m = c.head_of-mine.ensures in
    let t = c.head_of-theirs.ensures in
    let h : eqb c.head_of-mine.result c.head_of-theirs.result ≡ false = search rules in
    c.cmp.ensures ∙ (λ i. nat_cmp (m.is i) (t.is i)) ∙ by_head _ _ m.in_range t.in_range ((λ i. eqb (sym m.is i) (sym t.is i)) ∙ h)

pub returns : goal.returns
returns c =
    let m = c.head_of-mine.ensures in
    let t = c.head_of-theirs.ensures in
    let h : eqb c.head_of-mine.result c.head_of-theirs.result ≡ true = search rules in
    c.cmp-2.ensures ∙ (λ i. nat_cmp (c.rest_of.ensures i) (c.rest_of-2.ensures i)) ∙ by_rest _ _ m.in_range t.in_range ((λ i. eqb (sym m.is i) (sym t.is i)) ∙ h)
