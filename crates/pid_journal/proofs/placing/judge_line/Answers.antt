use Rattle.std.proofs.Common.{◌≡◌, ℕ, Bool, refl, Some, false, true, ap, sym, subst, arith, rules, ◌∙◌}
use Rattle.std.proofs.lemmas.Bool.Decides.{nat_tests}
use Rattle.std.specs.Prelude.{◌==◌, ◌&&◌, not}
use mathlib.Core.Bool.{false≢true}
use Rattle.pid_journal.specs.declared.counts.Counts.{Counts}
use Rattle.pid_journal.specs.declared.placing.LineCounts.{LineCounts}
use Rattle.pid_journal.specs.Steps.Places.{IsSaid}
use Rattle.pid_journal.proofs.Comparing.{after_more, after_said, after_still, noted_older, since_here, since_off, since_older, since_still}
use Rattle.pid_journal.proofs.Places.{command_passed, holds_here, holds_older, holds_other, not_older, nothing_said}
use Rattle.pid_journal.proofs.placing.judge_line.Goals as goal

-- the derived test of counts that are the same
tested : (a b d e : ℕ) → (a == a && (b == b && (d == d && e == e))) ≡ true
tested a b d e = grind (arith, nat_tests)

never_false : (k now : Counts) → k ≡ now → false ≡ (k.revision == now.revision && (k.accounts == now.accounts && (k.items == now.items && k.submissions == now.submissions))) → ⊥
never_false k now same off =
    false≢true (off ∙ ap (λ (x : Counts). k.revision == x.revision && (k.accounts == x.accounts && (k.items == x.items && k.submissions == x.submissions))) (sym same) ∙ tested k.revision k.accounts k.items k.submissions)

noted_so : (noted : Bool) → not noted ≡ false → noted ≡ true
noted_so true off = refl
noted_so false off = let no : ⊥ = cc in absurd no

-- a comment that is older than the registry
pub returns-then-counts-now-clause-next : goal.returns-then-counts-now-clause-next
returns-then-counts-now-clause-next c shown h line lines is said placed =
    holds_older shown h c.args.place line lines c.args.now c.in-Holds.counts is (subst (λ (s : LineCounts). IsSaid line s) c.in-Holds.is said) placed c.if-counts-now.true

pub returns-then-eq-clause-next : goal.returns-then-eq-clause-next
returns-then-eq-clause-next c shown h line lines is said placed =
    holds_here shown h c.args.place line lines c.args.now c.in-Holds.counts is (subst (λ (s : LineCounts). IsSaid line s) c.in-Holds.is said) placed (search rules)

pub returns-else-eq-clause-next : goal.returns-else-eq-clause-next
returns-else-eq-clause-next c shown h line lines is said placed =
    holds_other shown h c.args.place line lines c.args.now c.in-Holds.counts is (subst (λ (s : LineCounts). IsSaid line s) c.in-Holds.is said) placed c.if-counts-now.false (λ same. never_false c.in-Holds.counts c.args.now same c.if-eq.ensures)

pub returns-in-Nothing-clause-next : goal.returns-in-Nothing-clause-next
returns-in-Nothing-clause-next c shown h line lines is said placed =
    let none = subst (λ (s : LineCounts). IsSaid line s) c.in-Nothing.is said in
    nothing_said shown h c.args.place line lines none.0 none.1 placed

-- a command
pub returns-then-now-place-clause-next : goal.returns-then-now-place-clause-next
returns-then-now-place-clause-next c shown h line lines is said placed =
    not_older shown h c.args.place line lines c.args.now is (subst (λ (s : LineCounts). IsSaid line s) c.in-Other.is said) c.if-now-place.true placed

pub returns-else-now-place-clause-next : goal.returns-else-now-place-clause-next
returns-else-now-place-clause-next c shown h line lines is said placed =
    command_passed shown h c.args.place line lines (subst (λ (s : LineCounts). IsSaid line s) c.in-Other.is said) placed

-- WHAT IS COMPARED

pub returns-then-counts-now-clause-compared : goal.returns-then-counts-now-clause-compared
returns-then-counts-now-clause-compared c line lines is older =
    let says = subst (λ (s : LineCounts). IsSaid line s) c.in-Holds.is is in (
      λ on. c.if-counts-now.true,
      since_older c.args.now c.in-Holds.counts line lines says c.if-counts-now.true,
      after_said c.args.place.most c.in-Holds.counts line lines says,
    )

pub returns-then-eq-clause-compared : goal.returns-then-eq-clause-compared
returns-then-eq-clause-compared c line lines is older =
    let same : c.in-Holds.counts ≡ c.args.now = search rules in
    since_here c.args.now c.in-Holds.counts line lines (subst (λ (s : LineCounts). IsSaid line s) c.in-Holds.is is) c.if-counts-now.false ∙ ap (λ (k : Counts). Some k) same

pub returns-else-eq-clause-compared : goal.returns-else-eq-clause-compared
returns-else-eq-clause-compared c line lines is older = (
  c.in-Holds.counts,
  since_here c.args.now c.in-Holds.counts line lines (subst (λ (s : LineCounts). IsSaid line s) c.in-Holds.is is) c.if-counts-now.false,
  λ same. never_false c.in-Holds.counts c.args.now same c.if-eq.ensures,
)

pub returns-in-Nothing-clause-compared : goal.returns-in-Nothing-clause-compared
returns-in-Nothing-clause-compared c line lines is older =
    let none = subst (λ (s : LineCounts). IsSaid line s) c.in-Nothing.is is in
    (older, since_still c.args.now line lines none.0, after_still c.args.place.most line lines none.0 none.1)

pub returns-then-now-place-clause-compared : goal.returns-then-now-place-clause-compared
returns-then-now-place-clause-compared c line lines is older =
    noted_older c.args.now c.args.place (noted_so c.args.place.noted c.if-not-place.false) older c.if-now-place.true

pub returns-else-now-place-clause-compared : goal.returns-else-now-place-clause-compared
returns-else-now-place-clause-compared c line lines is older =
    let off = subst (λ (s : LineCounts). IsSaid line s) c.in-Other.is is in
    ((λ on. absurd (let no : ⊥ = cc in no)), since_off c.args.now line lines off, after_more c.args.place.most line lines off)
