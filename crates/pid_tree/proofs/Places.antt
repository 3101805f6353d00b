-- Where the children of a path lie, and the test of a parent.
use Rattle.std.proofs.Common.{◌≡◌, ℕ, ◌≤◌, false, List, [], ◌∷◌, Some, refl, sym, ap, subst, ◌∙◌, arith, ◌⊎◌, inl, inr}
use Rattle.std.specs.Prelude.{◌↔◌, IsTrue}
use Rattle.std.specs.declared.cmp.Ordering.{Ordering}
use Rattle.std.specs.declared.cmp.Ordering.TheVariants.{Less, Equal, Greater}
use Rattle.std.specs.Ordering.{nat_cmp, ordering_then, is_eq, is_gt}
use Rattle.std.specs.Cmp.Lexicographic.{slice_cmp}
use Rattle.std.specs.BTreeMap.Range.{IsLeBy}
use Rattle.std.specs.FinMap.{slice_cmp-IsAntisymmetric, nat_cmp-IsAntisymmetric}
use Rattle.std.proofs.lemmas.Cmp.{nat_list_cmp_total, tied_itself}
use Rattle.std.proofs.lemmas.Bool.{cases_lt}
use Rattle.std.proofs.lemmas.Bool.Decides.{nat_tests}
use Rattle.pid_file.specs.declared.path.Path.{Path}
use Rattle.pid_file.specs.PathTexts.{IsPath, path_text, parent_of}
use Rattle.pid_file.specs.Steps.Paths.{path_cmp}
use Rattle.pid_file.specs.Steps.PathPlaces.{letter_of, numbers_of}
use Rattle.pid_file.proofs.PathOrder.{places_order}
use Rattle.pid_file.proofs.Kin.{same_path, parent_in_range}

-- number by number no more
abbrev pub Below : List ℕ → List ℕ → Type 0
Below [] [] = Unit {0}
Below [] (n ∷ ns) = ⊥
Below (m ∷ ms) [] = ⊥
Below (m ∷ ms) (n ∷ ns) = (m ≤ n) × Below ms ns

less_or_same : (m n : ℕ) → m ≤ n → (nat_cmp m n ≡ Less) ⊎ (nat_cmp m n ≡ Equal)
less_or_same m n h = elim (cases_lt m n) [ inl lt ↦ inl (grind (arith, nat_tests)) | inr ge ↦ inr (grind (arith, nat_tests)) ]

not_above : (ms ns : List ℕ) → Below ms ns → is_gt (slice_cmp nat_cmp ms ns) ≡ false
not_above [] [] h = refl
not_above [] (n ∷ ns) h = absurd h
not_above (m ∷ ms) [] h = absurd h
not_above (m ∷ ms) (n ∷ ns) h = elim (less_or_same m n h.0) [
  | inl less ↦ ap (λ o. is_gt (ordering_then o (slice_cmp nat_cmp ms ns))) less
  | inr same ↦ ap (λ o. is_gt (ordering_then o (slice_cmp nat_cmp ms ns))) same ∙ not_above ms ns h.1
]

then_right : (a b : Ordering) → a ≡ Equal → is_gt (ordering_then a b) ≡ is_gt b
then_right a b h = ap (λ o. is_gt (ordering_then o b)) h

-- a path is no greater than one of its letter whose numbers are no less
pub ordered_places : (p q : Path) → IsPath p → IsPath q → nat_cmp (letter_of p) (letter_of q) ≡ Equal → Below (numbers_of p) (numbers_of q) → IsLeBy path_cmp p q
ordered_places p q a b letters numbers = ap is_gt (places_order p q a b) ∙ then_right _ _ letters ∙ not_above _ _ numbers

-- a path is a key's parent where the parent that the key has compares equal
pub parent_test : (key parent path : Path) → IsPath key → IsPath path → parent_of key ≡ Some parent → IsTrue (is_eq (path_cmp parent path)) ↔ (parent_of key ≡ Some path)
parent_test key parent path a b is = (
  λ equal. is ∙ ap (λ p. Some p) (same_path parent path (parent_in_range key parent is a) b (slice_cmp-IsAntisymmetric nat_cmp-IsAntisymmetric _ _ (equal_order _ equal))),
  λ same.
      let one : parent ≡ path = some_same _ _ (sym is ∙ same) in
      ap is_eq (ap (λ (p : Path). path_cmp p path) one ∙ tied_itself nat_list_cmp_total (path_text path)),
)
  where
    equal_order : (o : Ordering) → IsTrue (is_eq o) → o ≡ Equal
    equal_order Less h = absurd cc
    equal_order Equal h = refl
    equal_order Greater h = absurd cc

    some_same : (p q : Path) → Some p ≡ Some q → p ≡ q
    some_same p q h = cc
