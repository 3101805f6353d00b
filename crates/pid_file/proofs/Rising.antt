-- What a search in the run finds, and what an item above it makes of it.
use Rattle.std.proofs.Common.{◌≡◌, ℕ, suc, ◌+◌, ◌-◌, ◌<◌, ◌≤◌, Bool, true, false, cond, ◌||◌, List, [], ◌∷◌, ◌++◌, length, get_or, Some, Result, Ok, Err, refl, sym, ap, ◌∙◌, arith}
use mathlib.Core.Bool.{false≢true, true≢false}
use mathlib.Core.Logic.{◌⊎◌, ⊎_elim}
use Rattle.std.specs.Prelude.{is_ok}
use Rattle.std.specs.List.{slice_get}
use Rattle.std.specs.List.Sorted.{IsSearchInRange, IsBinarySearchResult, IsNonDecreasingBy}
use Rattle.std.specs.declared.cmp.Ordering.{Ordering}
use Rattle.std.specs.declared.cmp.Ordering.TheVariants.{Less, Equal, Greater}
use Rattle.std.specs.Ordering.{is_eq, is_lt, ordering_index, ordering_reverse}
use Rattle.std.specs.Cmp.{IsTotalOrder, eq_by_cmp_equiv}
use Rattle.std.proofs.lemmas.Bool.{cases_lt}
use Rattle.std.proofs.lemmas.List.{get_or_append_left, get_or_push, length-append}
use Rattle.std.proofs.lemmas.List.Folds.{list_any_at, list_any-append}
use Rattle.std.proofs.lemmas.List.Sorted.{searchable_from_sorted}
use Rattle.std.proofs.lemmas.Option.{get_or_from_slice_get}
use Rattle.pid_file.specs.SeenItems.{has_item, IsRising}
use Rattle.pid_file.specs.Steps.SeenPaths.{IsOneMore}

least : (o : Ordering) → ordering_index o ≤ 0 → is_eq o ≡ false
least Less h = refl
least Equal h = absurd (omega (arith, h))
least Greater h = refl

not_lt : (o : Ordering) → ordering_reverse o ≡ Less → is_lt o ≡ false
not_lt Less h = absurd (true≢false (sym (ap is_lt h)))
not_lt Equal h = refl
not_lt Greater h = refl

three : (a b c e : Bool) → e ≡ b → ((a || (b || false)) || c) ≡ cond e true (a || c)
three true b c true h = refl
three true b c false h = refl
three false true c true h = refl
three false false c false h = refl
three false true c false h = absurd (false≢true h)
three false false c true h = absurd (true≢false h)

two : (a c e : Bool) → (a || cond e true c) ≡ cond e true (a || c)
two true c true = refl
two true c false = refl
two false c true = refl
two false c false = refl

pub less_is : (o : Ordering) → is_lt o ≡ true → o ≡ Less
less_is Less h = refl
less_is Equal h = absurd (false≢true h)
less_is Greater h = absurd (false≢true h)

module _ {P : Type 0} (cmp : P → P → Ordering) (order : IsTotalOrder cmp) where
  symm : (p q : P) → is_eq (cmp p q) ≡ is_eq (cmp q p)
  symm p q = (eq_by_cmp_equiv order).symm p q

  rises : (run : List P) (x : P) → IsRising cmp run → IsNonDecreasingBy (λ y. ordering_index (cmp y x)) run
  rises run x up = searchable_from_sorted order (λ y. y) run x up

  absent_by : (run : List P) (x : P) → ((k : ℕ) (d : P) → k < length run → is_eq (cmp x (get_or run k d)) ≡ false) → has_item cmp run x ≡ false
  absent_by [] x h = refl
  absent_by (y ∷ ys) x h = ap (λ b. b || has_item cmp ys x) (h 0 x (omega arith)) ∙ absent_by ys x (λ k d l. h (suc k) d (omega (arith, l)))

  pub searched : (run : List P) (x : P) (r : Result ℕ ℕ) → IsRising cmp run → IsSearchInRange r (length run) → IsBinarySearchResult (λ y. cmp y x) run r → is_ok r ≡ has_item cmp run x
  searched run x (Ok i) up bound found = sym (list_any_at (λ k. is_eq (cmp x k)) run i x bound (symm x (get_or run i x) ∙ ap is_eq (found x)))
  searched run x (Err i) up bound parted = sym (absent_by run x (λ k d l.
      let parts = parted (rises run x up) in
      let c : (k < i) ⊎ (i ≤ k) = cases_lt k i in
      ⊎_elim
      (λ (a : k < i). symm x (get_or run k d) ∙ ap is_eq (parts.0 k d (omega arith) a))
      (λ (b : i ≤ k). symm x (get_or run k d) ∙ ap is_eq (parts.1 k d b l))
      c))

  module _ (run : List P) (last x : P) (up : IsRising cmp run) (is_last : slice_get run (length run - 1) ≡ Some last) (less : cmp last x ≡ Less) where
    last_at : (d : P) → get_or run (length run - 1) d ≡ last
    last_at d = get_or_from_slice_get run (length run - 1) last d is_last

    pub above_absent : has_item cmp run x ≡ false
    above_absent = absent_by run x (λ k d l.
        let low : ordering_index (cmp (get_or run k d) x) ≤ ordering_index (cmp (get_or run (length run - 1) d) x) = rises run x up k (length run - 1) d (omega (arith, l)) (omega (arith, l)) in
        let zero_is : ordering_index (cmp (get_or run (length run - 1) d) x) ≡ 0 = ap (λ y. ordering_index (cmp y x)) (last_at d) ∙ ap ordering_index less in
        symm x (get_or run k d) ∙ least (cmp (get_or run k d) x) (omega (arith, low, zero_is)))

    pub above_rises : IsRising cmp (run ++ x ∷ [])
    above_rises k d z l =
        let c : (k + 1 < length run) ⊎ (length run ≤ k + 1) = cases_lt (k + 1) (length run) in
        let long : length (run ++ x ∷ []) ≡ length run + 1 = length-append run (x ∷ []) in
        ⊎_elim
        (λ (a : k + 1 < length run). (λ i. is_lt (cmp (get_or_append_left run (x ∷ []) d (k + 1) a i) (get_or_append_left run (x ∷ []) d k (omega (arith, a)) i))) ∙ up k d z a)
        (λ (b : length run ≤ k + 1).
        let at_end : length run ≡ k + 1 = omega (arith, b, l, long) in
        let before : k ≡ length run - 1 = omega (arith, at_end) in
        let below : get_or (run ++ x ∷ []) k d ≡ last = get_or_append_left run (x ∷ []) d k (omega (arith, at_end)) ∙ ap (λ n. get_or run n d) before ∙ last_at d in
        (λ i. is_lt (cmp (get_or_push run x d (k + 1) at_end i) (below i))) ∙ not_lt (cmp x last) (sym (order.antisymm last x) ∙ less))
        c

  pub any_both : (run rest : List P) (q : P) → has_item cmp (run ++ rest) q ≡ (has_item cmp run q || has_item cmp rest q)
  any_both run rest q = list_any-append (λ k. is_eq (cmp q k)) run rest

  pub run_one_more : (run rest : List P) (p : P) → IsOneMore cmp (run ++ rest) p ((run ++ p ∷ []) ++ rest)
  run_one_more run rest p q =
      any_both (run ++ p ∷ []) rest q ∙ ap (λ b. b || has_item cmp rest q) (any_both run (p ∷ []) q)
      ∙ three (has_item cmp run q) (is_eq (cmp q p)) (has_item cmp rest q) (is_eq (cmp p q)) (symm p q)
      ∙ ap (cond (is_eq (cmp p q)) true) (sym (any_both run rest q))

  pub rest_one_more : (run rest more : List P) (p : P) → IsOneMore cmp rest p more → IsOneMore cmp (run ++ rest) p (run ++ more)
  rest_one_more run rest more p h q =
      any_both run more q ∙ ap (λ b. has_item cmp run q || b) (h q) ∙ two (has_item cmp run q) (has_item cmp rest q) (is_eq (cmp p q)) ∙ ap (cond (is_eq (cmp p q)) true) (sym (any_both run rest q))
