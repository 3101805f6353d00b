-- The set of the places of remarks, and what makes rows of remarks those of a registry.
use Rattle.std.proofs.Common.{◌≡◌, ◌⊎◌, ◌↔◌, ◌&&◌, IsTrue, inl, inr, ℕ, ◌-◌, ◌≤◌, List, [], ◌∷◌, ◌++◌, length, Bool, true, false, cond, refl, sym, ap, subst, subst₂, ◌∙◌, arith, Ordering, Less, Equal, Greater}
use Rattle.std.specs.List.{list_any}
use Rattle.std.specs.Ordering.{is_eq, nat_cmp, ordering_then}
use Rattle.std.specs.FinMap.{nat_cmp-IsAntisymmetric}
use Rattle.std.specs.BTreeSet.{BTreeSet, contains}
use Rattle.std.proofs.lemmas.Cmp.{tied_itself, nat_cmp_total}
use Rattle.sqlite.specs.declared.types.Value.TheVariants.{Text}
use Rattle.sqlite.specs.Order.{Row, column}
use Rattle.pid_ident.specs.Bytes.{is_empty}
use Rattle.pid_ident.specs.Words.{is_text}
use Rattle.pid_moderation.specs.CheckTables.{most_remarks}
use Rattle.pid_tables.specs.Rows.TableRows.{number}
use Rattle.pid_tables.specs.Check.Conditions.{HasRemark, AreRemarks}
use Rattle.pid_tables.specs.Check.Steps.PlaceSets.{pair_cmp, ArePlacesOf, FollowEach, FollowsPlace, IsRemark}
use Rattle.pid_tables.specs.Check.Steps.Keeping.{AreEach, IsPartJudged, TakesRemarks}
use Rattle.pid_tables.specs.declared.check.remark.RemarkFold.{RemarkFold}
use Rattle.pid_tables.proofs.OfCheck.ItemFacts.{split, before, last, both}

pub numbers_same : (m n : ℕ) → number m ≡ number n → m ≡ n
numbers_same m n e = cc

remark_before : (rows : List Row) (r : Row) (num place : ℕ) → HasRemark rows num place → HasRemark (rows ++ r ∷ []) num place
remark_before rows r num place it = (it.0, before rows r it.0 it.1, it.2, it.3)

pub place_skipped : (places : BTreeSet (ℕ × ℕ)) (rows : List Row) (r : Row) → ((num place : ℕ) → column r 0 ≡ number num → column r 1 ≡ number place → ⊥) → ArePlacesOf places rows → ArePlacesOf places (rows ++ r ∷ [])
place_skipped places rows r none are num place = (
  λ there. remark_before rows r num place ((are num place).0 there),
  λ it. elim (split rows r it.0 it.1) [
    | inl early ↦ (are num place).1 (it.0, early, it.2, it.3)
    | inr same ↦ absurd (none num place (ap (λ (x : Row). column x 0) (sym same) ∙ it.2) (ap (λ (x : Row). column x 1) (sym same) ∙ it.3))
  ],
)

pub chosen : (b c : Bool) → cond b true c ≡ true → (b ≡ true) ⊎ (c ≡ true)
chosen true c h = inl refl
chosen false c h = inr h

pub either : (b c : Bool) → (b ≡ true) ⊎ (c ≡ true) → cond b true c ≡ true
either true c h = refl
either false c (inl h) = absurd cc
either false c (inr h) = h

pub equal : (o : Ordering) → is_eq o ≡ true → o ≡ Equal
equal Less h = absurd cc
equal Equal h = refl
equal Greater h = absurd cc

pub pair_tied : (a b c d : ℕ) → is_eq (ordering_then (nat_cmp a c) (nat_cmp b d)) ≡ true → (a ≡ c) × (b ≡ d)
pair_tied a b c d h = go (nat_cmp a c) refl h
  where
    go : (o : Ordering) → nat_cmp a c ≡ o → is_eq (ordering_then o (nat_cmp b d)) ≡ true → (a ≡ c) × (b ≡ d)
    go Less is h = absurd cc
    go Equal is h = (nat_cmp-IsAntisymmetric a c is, nat_cmp-IsAntisymmetric b d (equal _ h))
    go Greater is h = absurd cc

itself : (a : ℕ) → nat_cmp a a ≡ Equal
itself a = tied_itself nat_cmp_total a

pub pair_itself : (a b : ℕ) → is_eq (ordering_then (nat_cmp a a) (nat_cmp b b)) ≡ true
pair_itself a b = λ i. is_eq (ordering_then (itself a i) (itself b i))

pub place_added : (places next : BTreeSet (ℕ × ℕ)) (rows : List Row) (r : Row) (n p : ℕ) → column r 0 ≡ number n → column r 1 ≡ number p
    → ((q : ℕ × ℕ) → contains pair_cmp next q ≡ cond (is_eq (pair_cmp (n, p) q)) true (contains pair_cmp places q)) → ArePlacesOf places rows → ArePlacesOf next (rows ++ r ∷ [])
place_added places next rows r n p first second added are num place = (
  λ there. elim (chosen _ _ (sym (added (num, place)) ∙ there)) [
    | inl same ↦ let both = pair_tied n p num place same in (r, last rows r, first ∙ ap number both.0, second ∙ ap number both.1)
    | inr was ↦ remark_before rows r num place ((are num place).0 was)
  ],
  λ it. added (num, place) ∙ either _ _ (elim (split rows r it.0 it.1) [
    | inl early ↦ inr ((are num place).1 (it.0, early, it.2, it.3))
    | inr same ↦ inl (
        let a : n ≡ num = numbers_same _ _ (sym first ∙ ap (λ (x : Row). column x 0) (sym same) ∙ it.2) in
        let b : p ≡ place = numbers_same _ _ (sym second ∙ ap (λ (x : Row). column x 1) (sym same) ∙ it.3) in
        (λ i. is_eq (ordering_then (nat_cmp (a i) num) (nat_cmp (b i) place))) ∙ pair_itself num place)
  ]),
)

pub follows_made : (places : BTreeSet (ℕ × ℕ)) (num place : ℕ) → 2 ≤ place → place ≤ most_remarks → contains pair_cmp places (num, place - 1) ≡ true → FollowsPlace places num place
follows_made places num place low high there = (omega (arith, low), high, λ earlier least next. let same : place - 1 ≡ earlier = omega (arith, next) in subst (λ e. contains pair_cmp places (num, e) ≡ true) same there)

pub follows_back : (places : BTreeSet (ℕ × ℕ)) (num place : ℕ) → 2 ≤ place → FollowsPlace places num place → contains pair_cmp places (num, place - 1) ≡ true
follows_back places num place low it = it.2 (place - 1) (omega (arith, low)) (omega (arith, low))

-- ---- rows by the set

four : (r : Row) → length r ≡ 4 → r ≡ column r 0 ∷ column r 1 ∷ column r 2 ∷ column r 3 ∷ []
four (a ∷ b ∷ c ∷ d ∷ []) len = refl
four (a ∷ b ∷ c ∷ d ∷ e ∷ r) len = absurd (omega (arith, len))
four [] len = absurd (omega (arith, len))
four (a ∷ []) len = absurd (omega (arith, len))
four (a ∷ b ∷ []) len = absurd (omega (arith, len))
four (a ∷ b ∷ c ∷ []) len = absurd (omega (arith, len))

module _ (r : Row) where
  pub num_of : IsRemark r → (n : ℕ) × (column r 0 ≡ number n)
  num_of it = (it.num, ap (λ (x : Row). column x 0) it.is)

  pub place_of : IsRemark r → (n : ℕ) × (column r 1 ≡ number n)
  place_of it = (it.place, ap (λ (x : Row). column x 1) it.is)

  pub author_of : IsRemark r → (author : List ℕ) × (column r 2 ≡ Text author)
  author_of it = (it.author, ap (λ (x : Row). column x 2) it.is)

  pub body_of : IsRemark r → (text : List ℕ) × (column r 3 ≡ Text text) × (is_text text ≡ true) × (is_empty text ≡ false)
  body_of it = (it.body, ap (λ (x : Row). column x 3) it.is, it.text, it.filled)

  pub remark_made : length r ≡ 4 → ((n : ℕ) × (column r 0 ≡ number n)) → ((n : ℕ) × (column r 1 ≡ number n)) → ((author : List ℕ) × (column r 2 ≡ Text author)) → ((text : List ℕ) × (column r 3 ≡ Text text) × (is_text text ≡ true) × (is_empty text ≡ false)) → IsRemark r
  remark_made len num place author body = record {
    num = num.0;
    place = place.0;
    author = author.0;
    body = body.0;
    is = four r len ∙ (λ i. num.1 i ∷ place.1 i ∷ author.1 i ∷ body.1 i ∷ []);
    text = body.2;
    filled = body.3;
  }

-- ---- places that follow one another

pub place_itself : (at : ℕ × ℕ) → is_eq (pair_cmp at at) ≡ true
place_itself at = pair_itself at.0 at.1

pub follow_kept : (places : BTreeSet (ℕ × ℕ)) (at : ℕ × ℕ) → FollowsPlace places at.0 at.1 → (other : ℕ × ℕ) → is_eq (pair_cmp other at) ≡ true → FollowsPlace places other.0 other.1
follow_kept places at follows other same =
    let both = pair_tied other.0 other.1 at.0 at.1 same in
    subst₂ (FollowsPlace places) (sym both.0) (sym both.1) follows

module _ (places : BTreeSet (ℕ × ℕ)) (rows : List Row) (are : ArePlacesOf places rows) where
  pub remarks_made : AreEach IsRemark rows → FollowEach places → AreRemarks rows
  remarks_made all follow r h =
      let it = all r h in
      let there = (are it.num it.place).1 (r, h, ap (λ (x : Row). column x 0) it.is, ap (λ (x : Row). column x 1) it.is) in
      let at = follow (it.num, it.place) there in
      record { num = it.num; place = it.place; author = it.author; body = it.body; is = it.is; within = (at.0, at.1); before = λ earlier low next. (are it.num earlier).0 (at.2 earlier low next); text = it.text; filled = it.filled }

  pub follow_of : AreRemarks rows → FollowEach places
  follow_of good at there =
      let has = (are at.0 at.1).0 there in
      let it = good has.0 has.1 in
      let num : it.num ≡ at.0 = numbers_same _ _ (sym (ap (λ (x : Row). column x 0) it.is) ∙ has.2) in
      let place : it.place ≡ at.1 = numbers_same _ _ (sym (ap (λ (x : Row). column x 1) it.is) ∙ has.3) in
      subst₂ (FollowsPlace places) num place (it.within.0, it.within.1, λ earlier low next. (are it.num earlier).1 (it.before earlier low next))

pub remarks_alone : (rows : List Row) → AreRemarks rows → AreEach IsRemark rows
remarks_alone rows good r h = let it = good r h in record { num = it.num; place = it.place; author = it.author; body = it.body; is = it.is; text = it.text; filled = it.filled }

pub no_places : (places : BTreeSet (ℕ × ℕ)) → places.keys ≡ [] → ArePlacesOf places []
no_places places none num place = (λ there. absurd (let bad : false ≡ true = sym (ap (λ (ks : List (ℕ × ℕ)). list_any (λ k. is_eq (pair_cmp (num, place) k)) ks) none) ∙ there in cc), λ it. absurd it.1)

pub remarks_judged : (rows : List Row) (it : RemarkFold) (follow : Bool) → TakesRemarks rows it → (IsTrue follow ↔ FollowEach it.places) → IsPartJudged AreRemarks rows (it.good && follow)
remarks_judged rows it follow taken follows = (
  λ yes. let of = (both it.good follow).0 yes in remarks_made it.places rows taken.places (taken.good.0 of.0) (follows.0 of.1),
  λ good. (both it.good follow).1 (taken.good.1 (remarks_alone rows good), follows.1 (follow_of it.places rows taken.places good)),
)
