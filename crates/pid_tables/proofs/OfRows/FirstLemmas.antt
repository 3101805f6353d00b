-- What a query on one table answers that asks for one row, the first in an order.
use Rattle.std.proofs.Common.{◌≡◌, ◌⊎◌, inl, inr, ℕ, suc, pos, ◌+◌, List, [], ◌∷◌, ◌++◌, map, filter, flat_map, take, drop, Bool, true, false, cond, None, Some, Option, Ordering, Less, Equal, Greater, is_lt, is_gt, refl, sym, ap, subst, ◌∙◌, arith, IsPermutation, IsSorted}
use Rattle.std.specs.List.{AllByRecursion}
use Rattle.std.specs.Cmp.{IsTotalOrder}
use Rattle.std.specs.Ordering.{ordering_reverse}
use Rattle.std.proofs.lemmas.Cmp.{upto, tied_itself}
use Rattle.std.proofs.lemmas.List.Sorted.{IsPermutation-sym}
use Rattle.sqlite.specs.declared.types.Value.TheVariants.{Int}
use Rattle.sqlite.specs.Order.{Row}
use Rattle.sqlite.specs.Tree.{Trees}
use Rattle.sqlite.specs.Term.{Term, lit}
use Rattle.sqlite.specs.Query.{Query, IsAnswer, Output, output_cmp}
use Rattle.sqlite_value.specs.declared.keys.Key.{Key}
use Rattle.sqlite_sql.proofs.QueryLemmas.{output_cmp_total}
use Rattle.sqlite_rules.specs.Lists.{Has}
use Rattle.sqlite_rules.proofs.ListLemmas.{all_has}
use Rattle.sqlite_rules.proofs.ProbeLemmas.{mapped_has}
use Rattle.pid_tables.proofs.OfRows.Statements.{first_one}
use Rattle.pid_tables.proofs.OfRows.Select.{passing, shown, out, kept_outs}
use Rattle.pid_tables.proofs.OfRows.TurnLemmas.{has_mapped, permuted}

module _ {X : Type 0} (cmp : X → X → Ordering) (total : IsTotalOrder cmp) where
  abbrev AtMost : X → X → Type 0
  AtMost a b = is_gt (cmp a b) ≡ false

  turned : (o : Ordering) → is_lt o ≡ false → is_gt (ordering_reverse o) ≡ false
  turned Less h = h
  turned Equal h = refl
  turned Greater h = refl

  weaker : (P Q : X → Type 0) → ((x : X) → P x → Q x) → (xs : List X) → AllByRecursion P xs → AllByRecursion Q xs
  weaker P Q f [] all = tt
  weaker P Q f (x ∷ xs) all = (f x all.0, weaker P Q f xs all.1)

  pub head_least : (x : X) (ys : List X) → IsSorted cmp (x ∷ ys) → AllByRecursion (AtMost x) ys
  head_least x [] sorted = tt
  head_least x (y ∷ ys) sorted =
      let tail : IsSorted cmp (y ∷ ys) = λ k d p q. rw Rattle.std.proofs.Common.add-one (rw Rattle.std.proofs.Common.add-one at (sorted (suc k) d (omega arith) (omega arith))) in
      let first : AtMost x y = ap is_gt (total.antisymm x y) ∙ turned _ (sorted 0 x (omega arith) (omega arith)) in
      (first, weaker (AtMost y) (AtMost x) (λ z. upto total x y z first) ys (head_least y ys tail))

  itself : (x : X) → AtMost x x
  itself x = ap is_gt (tied_itself total x)

  pub least_of_all : (x : X) (ys : List X) → IsSorted cmp (x ∷ ys) → (z : X) → Has (x ∷ ys) z → AtMost x z
  least_of_all x ys sorted z (inl same) = subst (AtMost x) (sym same) (itself x)
  least_of_all x ys sorted z (inr later) = all_has (AtMost x) ys z (head_least x ys sorted) later

module _ (tree : ℕ) (tests project : List Term) (order : List (Term × Key)) (params : Row) where
  abbrev q : Query
  q = first_one tree tests project order

  abbrev outcome : Row → Output
  outcome = out tree tests project order (lit (Int (pos 1))) params

  -- there is none, or it is one that no other comes before
  pub record IsFirst (rows answer : List Row) : Type 0 where
    pub row : Row
    pub there : Has (passing tests params rows) row
    pub is : answer ≡ shown project params row ∷ []
    pub least : (r : Row) → Has (passing tests params rows) r → is_gt (output_cmp q (outcome row) (outcome r)) ≡ false

  abbrev pub HasNone : List Row → List Row → Type 0
  HasNone rows answer = (answer ≡ []) × ((r : Row) → Has (passing tests params rows) r → ⊥)

  pub first_found : (db : Trees) (answer : List Row) → IsAnswer q db params answer → HasNone (db tree) answer ⊎ IsFirst (db tree) answer
  first_found db answer a =
      let kept = kept_outs tree tests project order (lit (Int (pos 1))) params db answer a in
      go a.ordered (subst (λ k. IsPermutation k a.ordered) kept a.same) a.sorted a.shown
    where
      go : (ordered : List Output) → IsPermutation (map outcome (passing tests params (db tree))) ordered → IsSorted (output_cmp q) ordered → answer ≡ take 1 (map (λ o. o.1) ordered) → HasNone (db tree) answer ⊎ IsFirst (db tree) answer
      go [] same sorted is = inl (is, λ r h. permuted _ [] (outcome r) same (mapped_has outcome _ r h))
      go (o ∷ os) same sorted is =
          let back = has_mapped outcome (passing tests params (db tree)) o (permuted (o ∷ os) _ o (IsPermutation-sym _ _ same) (inl refl)) in
          inr (record {
            row = back.0;
            there = back.1;
            is = is ∙ ap (λ (p : Output). p.1 ∷ []) back.2;
            least = λ r h. subst (λ p. is_gt (output_cmp q p (outcome r)) ≡ false) back.2 (least_of_all (output_cmp q) (output_cmp_total q) o os sorted (outcome r) (permuted _ (o ∷ os) (outcome r) same (mapped_has outcome _ r h)));
          })
