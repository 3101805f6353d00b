-- The numbers of submissions.
use Rattle.std.proofs.Common.{◌≡◌, ◌⊎◌, inl, inr, ℕ, zero, suc, ◌+◌, ◌<◌, List, [], ◌∷◌, ◌++◌, length, true, false, cond, sym, ap, subst, ◌∙◌, arith}
use Rattle.std.specs.Prelude.{◌↔◌}
use Rattle.std.specs.List.{list_any}
use Rattle.std.specs.Ordering.{is_eq, nat_cmp}
use Rattle.std.specs.FinMap.{nat_cmp-IsAntisymmetric}
use Rattle.std.specs.BTreeSet.{BTreeSet, contains}
use Rattle.std.proofs.lemmas.Cmp.{tied_itself, nat_cmp_total}
use Rattle.sqlite.specs.Order.{Row, column}
use Rattle.pid_tables.specs.Rows.TableRows.{number}
use Rattle.pid_tables.proofs.OfRows.Keys.{numbers_decided}
use Rattle.pid_tables.specs.Check.Steps.NumberSets.{AreNumbersOf, CountFromOne, HasNumber}
use Rattle.pid_tables.specs.Check.Conditions.{HasValue}
use Rattle.pid_tables.specs.declared.check.numbers.Numbers.{Numbers}
use Rattle.pid_tables.proofs.OfCheck.ItemFacts.{split, last, value_before}
use Rattle.pid_tables.proofs.OfCheck.RemarkFacts.{chosen, either, equal, numbers_same}

pub none_yet : (numbers : Numbers) → numbers.turn ≡ 0 → numbers.others.keys ≡ [] → AreNumbersOf numbers []
none_yet numbers turn none n = (go, λ it. absurd it.1)
  where
    go : HasNumber numbers n → HasValue [] 0 (number n)
    go (inl within) = absurd (omega (arith, within.0, within.1, turn))
    go (inr there) = absurd (let bad : false ≡ true = sym (ap (λ (ks : List ℕ). list_any (λ k. is_eq (nat_cmp n k)) ks) none) ∙ there in cc)

pub number_skipped : (numbers : Numbers) (rows : List Row) (r : Row) → ((n : ℕ) → column r 0 ≡ number n → ⊥) → AreNumbersOf numbers rows → AreNumbersOf numbers (rows ++ r ∷ [])
number_skipped numbers rows r none are n = (
  λ there. value_before rows r 0 _ ((are n).0 there),
  λ it. elim (split rows r it.0 it.1) [
    | inl early ↦ (are n).1 (it.0, early, it.2)
    | inr same ↦ absurd (none n (ap (λ (x : Row). column x 0) (sym same) ∙ it.2))
  ],
)

-- the numbers are those before and one more
abbrev pub AddsNumber : Numbers → Numbers → ℕ → Type 0
AddsNumber numbers next m = (n : ℕ) → HasNumber next n ↔ (HasNumber numbers n ⊎ (m ≡ n))

pub number_added : (numbers next : Numbers) (rows : List Row) (r : Row) (m : ℕ) → column r 0 ≡ number m → AddsNumber numbers next m → AreNumbersOf numbers rows → AreNumbersOf next (rows ++ r ∷ [])
number_added numbers next rows r m is added are n = (
  λ there. elim ((added n).0 there) [
    | inl was ↦ value_before rows r 0 _ ((are n).0 was)
    | inr same ↦ (r, last rows r, is ∙ ap number same)
  ],
  λ it. (added n).1 (elim (split rows r it.0 it.1) [
    | inl early ↦ inl ((are n).1 (it.0, early, it.2))
    | inr same ↦ inr (numbers_same _ _ (sym is ∙ ap (λ (x : Row). column x 0) (sym same) ∙ it.2))
  ]),
)

-- the next in turn
pub in_turn : (numbers next : Numbers) (m : ℕ) → m ≡ suc numbers.turn → next.turn ≡ m → next.others ≡ numbers.others → AddsNumber numbers next m
in_turn numbers next m is turn same n = (there, back)
  where
    there : HasNumber next n → HasNumber numbers n ⊎ (m ≡ n)
    there (inl within) = elim (numbers_decided m n) [ inl here ↦ inr here | inr other ↦ inl (inl (within.0, omega (arith, within.1, is, turn, other))) ]
    there (inr other) = inl (inr (subst (λ (s : BTreeSet ℕ). contains nat_cmp s n ≡ true) same other))

    back : HasNumber numbers n ⊎ (m ≡ n) → HasNumber next n
    back (inl (inl within)) = inl (within.0, omega (arith, within.1, is, turn))
    back (inl (inr other)) = inr (subst (λ (s : BTreeSet ℕ). contains nat_cmp s n ≡ true) (sym same) other)
    back (inr here) = inl (omega (arith, here, is), omega (arith, here, turn))

-- any other
pub out_of_turn : (numbers next : Numbers) (m : ℕ) → next.turn ≡ numbers.turn → ((q : ℕ) → contains nat_cmp next.others q ≡ cond (is_eq (nat_cmp m q)) true (contains nat_cmp numbers.others q)) → AddsNumber numbers next m
out_of_turn numbers next m turn added n = (there, back)
  where
    there : HasNumber next n → HasNumber numbers n ⊎ (m ≡ n)
    there (inl within) = inl (inl (within.0, omega (arith, within.1, turn)))
    there (inr other) = elim (chosen _ _ (sym (added n) ∙ other)) [ inl same ↦ inr (nat_cmp-IsAntisymmetric m n (equal _ same)) | inr was ↦ inl (inr was) ]

    back : HasNumber numbers n ⊎ (m ≡ n) → HasNumber next n
    back (inl (inl within)) = inl (within.0, omega (arith, within.1, turn))
    back (inl (inr other)) = inr (added n ∙ either _ _ (inr other))
    back (inr here) = inr (added n ∙ either _ _ (inl (ap (λ k. is_eq (nat_cmp k n)) here ∙ ap is_eq (tied_itself nat_cmp_total n))))

-- so many of the numbers are there
abbrev pub AreThere : Numbers → ℕ → Type 0
AreThere numbers count = (k : ℕ) → k < count → HasNumber numbers (k + 1)

pub counts : (numbers : Numbers) (rows : List Row) → AreNumbersOf numbers rows → (count : ℕ) → count ≡ length rows → AreThere numbers count → CountFromOne rows
counts numbers rows are count is all zero low high = absurd (omega (arith, low))
counts numbers rows are count is all (suc k) low high = (are (suc k)).0 (subst (HasNumber numbers) (omega arith) (all k (omega (arith, high, is))))

pub counted : (numbers : Numbers) (rows : List Row) (k count : ℕ) → count ≡ length rows → AreNumbersOf numbers rows → CountFromOne rows → k < count → HasNumber numbers (k + 1)
counted numbers rows k count is are all less = (are (k + 1)).1 (all (k + 1) (omega arith) (omega (arith, less, is)))
