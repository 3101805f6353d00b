-- An answer in an order is the list that it stands for.
use Rattle.std.proofs.Common.{◌≡◌, ◌≢◌, inl, inr, ℕ, suc, pos, negsuc, ◌+◌, List, [], ◌∷◌, ◌++◌, length, map, filter, flat_map, Bool, true, false, cond, None, Ordering, Less, Equal, Greater, is_lt, is_gt, refl, sym, ap, subst, ◌∙◌, arith, IsPermutation, IsSorted}
use Rattle.std.specs.List.{AllByRecursion}
use Rattle.std.specs.Cmp.{IsTotalOrder}
use Rattle.std.specs.Ordering.{ordering_reverse}
use Rattle.std.proofs.lemmas.Cmp.{tied_itself}
use Rattle.std.proofs.lemmas.List.{length-map}
use Rattle.std.proofs.lemmas.List.Sorted.{IsPermutation-sym, length_permutation}
use Rattle.sqlite.specs.Order.{Row}
use Rattle.sqlite.specs.Tree.{Trees, IsAscending}
use Rattle.sqlite.specs.Term.{Term}
use Rattle.sqlite.specs.Query.{Query, IsAnswer, Output, output_cmp, page}
use Rattle.sqlite_value.specs.declared.keys.Key.{Key}
use Rattle.sqlite_sql.proofs.QueryLemmas.{output_cmp_total}
use Rattle.sqlite_rules.specs.Lists.{Has}
use Rattle.sqlite_rules.proofs.ListLemmas.{all_has}
use Rattle.pid_tables.proofs.OfRows.Statements.{listing}
use Rattle.pid_tables.proofs.OfRows.Select.{passing, out, kept_outs}
use Rattle.pid_tables.proofs.OfRows.TurnLemmas.{permuted}
use Rattle.pid_tables.proofs.OfRows.Lengths.{IsDistinct, shorter, same_length, mapped, unmapped}
use Rattle.pid_tables.proofs.OfRows.FirstLemmas.{least_of_all}

module _ {X : Type 0} (cmp : X → X → Ordering) (total : IsTotalOrder cmp) where
  abbrev pub Rises : List X → Type 0
  Rises = IsAscending (λ a b. cmp a b ≡ Less)

  less_apart : (a b : X) → cmp a b ≡ Less → a ≢ b
  less_apart a b less same = let bad : ◌≡◌ {A = Ordering} Equal Less = sym (tied_itself total b) ∙ subst (λ x. cmp x b ≡ Less) same less in cc

  all_apart : (x : X) (ys : List X) → AllByRecursion (λ y. cmp x y ≡ Less) ys → AllByRecursion (λ y. x ≢ y) ys
  all_apart x [] all = tt
  all_apart x (y ∷ ys) all = (less_apart x y all.0, all_apart x ys all.1)

  pub rising_distinct : (xs : List X) → Rises xs → IsDistinct xs
  rising_distinct [] up = tt
  rising_distinct (x ∷ xs) up = (all_apart x xs up.0, rising_distinct xs up.1)

  sorted_tail : (x : X) (xs : List X) → IsSorted cmp (x ∷ xs) → IsSorted cmp xs
  sorted_tail x xs sorted = λ k d p q. rw Rattle.std.proofs.Common.add-one (rw Rattle.std.proofs.Common.add-one at (sorted (suc k) d (omega arith) (omega arith)))

  not_both : (x z : X) → cmp z x ≡ Less → is_gt (cmp x z) ≡ false → x ≡ z
  not_both x z less most = let above : is_gt (cmp x z) ≡ true = ap is_gt (total.antisymm x z ∙ ap ordering_reverse less) in absurd (let both = sym above ∙ most in let bad : ⊥ = cc in bad)

  -- lists in one order with the same elements, one of them without repetitions, are the same if they are of one length
  pub in_order : (xs zs : List X) → IsSorted cmp xs → Rises zs → length xs ≡ length zs → ((x : X) → Has xs x → Has zs x) → ((z : X) → Has zs z → Has xs z) → xs ≡ zs
  in_order [] [] sorted up same there back = refl
  in_order [] (z ∷ zs) sorted up same there back = absurd (omega (arith, same))
  in_order (x ∷ xs) [] sorted up same there back = absurd (omega (arith, same))
  in_order (x ∷ xs) (z ∷ zs) sorted up same there back =
      let head : x ≡ z = elim (there x (inl refl)) [
        | inl is ↦ is
        | inr later ↦ not_both x z (all_has (λ y. cmp z y ≡ Less) zs x up.0 later) (least_of_all cmp total x xs sorted z (back z (inl refl)))
      ] in
      let fewer : Has xs z → ⊥ = λ again.
      let bound = shorter (z ∷ zs) xs (rising_distinct (z ∷ zs) up) (λ w h. elim (back w h) [ inl is ↦ subst (Has xs) (sym head ∙ sym is) again | inr later ↦ later ]) in
      omega (arith, bound, same) in
      let tail = in_order xs zs (sorted_tail x xs sorted) up.1 (omega (arith, same))
      (λ w h. elim (there w (inr h)) [ inl is ↦ absurd (fewer (subst (Has xs) is h)) | inr later ↦ later ])
      (λ w h. elim (back w (inr h)) [ inl is ↦ absurd (less_apart z w (all_has (λ y. cmp z y ≡ Less) zs w up.0 h) (sym head ∙ sym is)) | inr later ↦ later ]) in
      λ i. head i ∷ tail i

module _ (tree : ℕ) (tests project : List Term) (order : List (Term × Key)) (limit : Term) (params : Row) where
  abbrev q : Query
  q = listing tree tests project order limit

  abbrev outcome : Row → Output
  outcome = out tree tests project order limit params

  -- the rows that pass stand for the elements of a list, one for each, which rises in the order
  pub record StandsFor {Y : Type 0} (mark : Y → Output) (ys : List Y) (rows : List Row) : Type 0 where
    pub each : (r : Row) → Has (passing tests params rows) r → (y : Y) × Has ys y × (outcome r ≡ mark y)
    pub there : (y : Y) → Has ys y → (r : Row) × Has (passing tests params rows) r × (outcome r ≡ mark y)
    pub apart : IsDistinct (map outcome (passing tests params rows))
    pub rises : Rises (output_cmp q) (output_cmp_total q) (map mark ys)

  pub listed : {Y : Type 0} (mark : Y → Output) (ys : List Y) (db : Trees) (rows answer : List Row) → db tree ≡ rows → StandsFor mark ys rows → IsAnswer q db params answer → answer ≡ page q params (map (λ y. (mark y).1) ys)
  listed mark ys db rows answer has stands a =
      let all = map outcome (passing tests params rows) in
      let kept : a.kept ≡ all = kept_outs tree tests project order limit params db answer a ∙ ap (λ l. map outcome (passing tests params l)) has in
      let same = subst (λ k. IsPermutation k a.ordered) kept a.same in
      let long : length all ≡ length (map mark ys) = length-map (passing tests params rows) outcome ∙ same_length outcome mark (passing tests params rows) ys stands.apart (rising_distinct (output_cmp q) (output_cmp_total q) (map mark ys) stands.rises)
      (λ r h. let it = stands.each r h in subst (Has (map mark ys)) (sym it.2) (mapped mark ys it.0 it.1))
      (λ y h. let it = stands.there y h in subst (Has all) it.2 (mapped outcome (passing tests params rows) it.0 it.1)) ∙ sym (length-map ys mark) in
      let ordered : a.ordered ≡ map mark ys = in_order (output_cmp q) (output_cmp_total q) a.ordered (map mark ys) a.sorted stands.rises (length_permutation all a.ordered same ∙ long)
      (λ o h. let r = unmapped outcome (passing tests params rows) o (permuted a.ordered all o (IsPermutation-sym _ _ same) h) in let it = stands.each r.0 r.1 in subst (Has (map mark ys)) (sym (r.2 ∙ it.2)) (mapped mark ys it.0 it.1))
      (λ o h. let y = unmapped mark ys o h in let it = stands.there y.0 y.1 in permuted all a.ordered o same (subst (Has all) (it.2 ∙ sym y.2) (mapped outcome (passing tests params rows) it.0 it.1))) in
      a.shown ∙ ap (λ os. page q params (map (λ (o : Output). o.1) os)) ordered ∙ ap (page q params) (discussion_of ys)
    where
      discussion_of : (ys : List _) → map (λ (o : Output). o.1) (map mark ys) ≡ map (λ y. (mark y).1) ys
      discussion_of [] = refl
      discussion_of (y ∷ ys) = ap (λ l. (mark y).1 ∷ l) (discussion_of ys)
