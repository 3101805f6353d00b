-- The first two lines of a text.
use Rattle.std.proofs.Common.{◌≡◌, ◌≤◌, ℕ, List, [], true, Option, Some, length, sym, ap, subst, ◌∙◌}
use Rattle.std.specs.Prelude.{◌==◌}
use Rattle.std.proofs.Common.{arith}
use Rattle.std.proofs.lemmas.Bool.Decides.{nat_tests}
use Rattle.std.proofs.lemmas.List.{nil_from_length}
use Rattle.pid_journal.specs.declared.counts.Counts.{Counts}
use Rattle.pid_journal.specs.Journals.{counts_said, IsNote}
use Rattle.pid_journal.proofs.Reading.{reads}
use Rattle.pid_journal.proofs.entry.read_noted.Goals as goal

empty_is : (l : List ℕ) → true ≡ (length l == 0) → l ≡ []
empty_is l e = nil_from_length l (grind (arith, nat_tests, e))

-- what is said of a line without its CR
of_line : (line short : List ℕ) (k : Counts) (found : Option Counts) → short ≡ line → found ≡ counts_said short → found ≡ Some k → counts_said line ≡ Some k
of_line line short k found same says is = ap counts_said (sym same) ∙ sym says ∙ is

pub returns : goal.returns
returns c =
    let none : c.in-Some-split_line.behind.now ≡ [] = empty_is c.in-Some-split_line.behind.now (sym c.if-not-is_empty.false ∙ c.is_empty.ensures) in
    subst (λ (l : List ℕ). IsNote c.args.text.now c.in-Some-2.counts l) (sym c.without_cr.ensures)
    (reads c.args.text.now c.in-Some.comment.now c.in-Some.rest.now c.in-Some-split_line.line.now c.in-Some-split_line.behind.now c.in-Some-2.counts c.in-Some.ensures.parts.0 c.in-Some.ensures.parts.1 c.in-Some-split_line.ensures.parts.0 c.in-Some-split_line.ensures.parts.1 none
    (of_line _ _ c.in-Some-2.counts _ c.without_cr-short.ensures c.in_ok-counts.ensures c.in-Some-2.is)
    (subst (λ (l : List ℕ). length l ≤ 1000) c.without_cr-short.ensures c.if-short-gt-LONGEST_COMMENT.false))
