-- A walk over the keys of a set.
use Rattle.std.proofs.Common.{◌≡◌, ◌⊎◌, inl, inr, List, [], ◌∷◌, Bool, true, false, Ordering, sym, subst}
use Rattle.std.specs.List.{list_any}
use Rattle.std.specs.Ordering.{is_eq}
use Rattle.std.specs.BTreeSet.{BTreeSet, contains}
use Rattle.std.proofs.lemmas.Bool.{or_cases, or_left, or_right}

abbrev pub is_in : {K : Type 0} → (K → K → Ordering) → List K → K → Bool
is_in cmp keys k = list_any (λ x. is_eq (cmp k x)) keys

-- what is left is of the set, and each key is left or is so
pub record HasWalked {K : Type 0} (cmp : K → K → Ordering) (Is : K → Type 0) (set : BTreeSet K) (left : List K) : Type 0 where
  pub among : (k : K) → is_in cmp left k ≡ true → contains cmp set k ≡ true
  pub rest : (k : K) → contains cmp set k ≡ true → (is_in cmp left k ≡ true) ⊎ Is k

module _ {K : Type 0} (cmp : K → K → Ordering) (Is : K → Type 0) (set : BTreeSet K) where
  pub walk_begun : (left : List K) → left ≡ set.keys → HasWalked cmp Is set left
  walk_begun left is = record {
    among = λ k h. subst (λ ks. is_in cmp ks k ≡ true) is h;
    rest = λ k h. inl (subst (λ ks. is_in cmp ks k ≡ true) (sym is) h);
  }

  module _ (left more : List K) (x : K) (was : HasWalked cmp Is set left) (is : left ≡ x ∷ more) where
    pub walk_here : is_eq (cmp x x) ≡ true → contains cmp set x ≡ true
    walk_here itself = was.among x (subst (λ ks. is_in cmp ks x ≡ true) (sym is) (or_left _ _ itself))

    pub walk_on : ((k : K) → is_eq (cmp k x) ≡ true → Is k) → HasWalked cmp Is set more
    walk_on so = record {
      among = λ k h. was.among k (subst (λ ks. is_in cmp ks k ≡ true) (sym is) (or_right _ _ h));
      rest = λ k h. elim (was.rest k h) [
        | inl there ↦ elim (or_cases _ _ (subst (λ ks. is_in cmp ks k ≡ true) is there)) [ inl here ↦ inr (so k here) | inr later ↦ inl later ]
        | inr done ↦ inr done
      ];
    }

  pub walk_ended : (left : List K) → HasWalked cmp Is set left → left ≡ [] → (k : K) → contains cmp set k ≡ true → Is k
  walk_ended left was none k h = elim (was.rest k h) [
    | inl there ↦ absurd (let bad : false ≡ true = subst (λ ks. is_in cmp ks k ≡ true) none there in cc)
    | inr done ↦ done
  ]
