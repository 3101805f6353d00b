-- The authors of submissions.
use Rattle.std.proofs.Common.{◌≡◌, ◌⊎◌, inl, inr, ℕ, zero, suc, ◌+◌, ◌<◌, List, [], ◌∷◌, ◌++◌, length, Bool, true, false, cond, Option, Some, None, refl, sym, ap, subst, ◌∙◌, Ordering, Less, Equal, Greater, arith}
use Rattle.std.specs.Prelude.{◌↔◌, IsUtf8, String, string_bytes, is_ok, is_some, if◌then◌else◌, Result, Ok, Err, IfOk}
use Rattle.std.specs.declared.alloc.Global.{Global}
use Rattle.std.specs.List.{list_any, slice_get}
use Rattle.std.specs.Map.{lookup}
use Rattle.std.specs.Ordering.{is_eq, match_ordering}
use Rattle.std.specs.String.{string_cmp}
use Rattle.std.specs.BTreeSet.{BTreeSet, contains}
use Rattle.std.specs.BTreeMap.{btree_map_len, get_by_text, insert_entry}
use Rattle.std.specs.Cmp.Lexicographic.{nat_list_cmp_total}
use Rattle.std.proofs.lemmas.Cmp.{tied_itself}
use Rattle.sqlite.specs.declared.types.Value.TheVariants.{Text}
use Rattle.sqlite.specs.Order.{Row, column}
use Rattle.pid_ident.specs.Trees.{text_cmp}
use Rattle.pid_tables.proofs.OfRows.SetLemmas.{tied}
use Rattle.pid_tables.specs.Rows.TableRows.{number}
use Rattle.pid_tables.specs.Check.Steps.AuthorSets.{Names, ArePlaces, AddsName, PlacesName, HasPlace, IsByAuthor, IsKeptBy, AreAuthorsOf}
use Rattle.pid_tables.specs.Check.Steps.PlaceSets.{pair_cmp}
use Rattle.pid_tables.specs.declared.check.authors.Authors.{Authors}
use Rattle.pid_tables.proofs.OfCheck.ItemFacts.{split, before, last, texts_same}
use Rattle.pid_tables.proofs.OfCheck.RemarkFacts.{chosen, either, numbers_same, pair_tied, pair_itself}

-- ---- a name that is added

same_test : {X : Type 0} (a b : Bool) (x y z : X) → a ≡ b → cond b x z ≡ cond a x (cond b y z)
same_test a true x y z e = subst (λ c. x ≡ cond c x y) (sym e) refl
same_test a false x y z e = subst (λ c. z ≡ cond c x z) (sym e) refl

apart_test : {X : Type 0} (a b : Bool) (x y z : X) → (a ≡ true → b ≡ true → ⊥) → cond a x (cond b y z) ≡ cond b y (cond a x z)
apart_test true true x y z never = absurd (never refl refl)
apart_test true false x y z never = refl
apart_test false true x y z never = refl
apart_test false false x y z never = refl

-- what a test of keys finds after an insertion, if it takes keys for one exactly when they tie
looked_up : {K X : Type 0} (cmp : K → K → Ordering) (test : K → Bool) → ((x y : K) → cmp x y ≡ Equal → test x ≡ test y) → ((x y : K) → test x ≡ true → test y ≡ true → cmp x y ≡ Equal) → (es : List (K × X)) (k : K) (v : X)
    → lookup test (insert_entry cmp es k v) ≡ cond (test k) (Some v) (lookup test es)
looked_up cmp test alike one [] k v = refl
looked_up {X = X} cmp test alike one (e ∷ es) k v = go (cmp k e.0) refl (looked_up cmp test alike one es k v)
  where
    go : (o : Ordering) → cmp k e.0 ≡ o → lookup test (insert_entry cmp es k v) ≡ cond (test k) (Some v) (lookup test es)
        → lookup test (match_ordering o ((k, v) ∷ e ∷ es) ((e.0, v) ∷ es) (e ∷ insert_entry cmp es k v)) ≡ cond (test k) (Some v) (cond (test e.0) (Some e.1) (lookup test es))
    go Less is rest = refl
    go Equal is rest = same_test (test k) (test e.0) (Some v) (Some e.1) (lookup test es) (alike k e.0 is)
    go Greater is rest = ap (cond (test e.0) (Some e.1)) rest ∙ apart_test (test e.0) (test k) (Some e.1) (Some v) (lookup test es) (λ a b. let bad : Greater ≡ Equal = sym is ∙ one k e.0 b a in cc)

equal : (o : Ordering) → o ≡ Equal → is_eq o ≡ true
equal o e = ap is_eq e

pub name_looked : (old new : Names) (key : String Global) (place : ℕ) → new.entries ≡ insert_entry string_cmp old.entries key place → (text : List ℕ) → get_by_text new text ≡ cond (is_eq (text_cmp text (string_bytes key))) (Some place) (get_by_text old text)
name_looked old new key place entries text =
    let test = λ (k : String Global). is_eq (text_cmp text (string_bytes k)) in
    ap (λ (es : List (String Global × ℕ)). lookup test es) entries
    ∙ looked_up string_cmp test (λ x y e. ap (λ t. is_eq (text_cmp text t)) (tied (string_bytes x) (string_bytes y) (equal _ e)))
    (λ x y a b. let same : string_bytes x ≡ string_bytes y = sym (tied text (string_bytes x) a) ∙ tied text (string_bytes y) b in ap (λ t. text_cmp t (string_bytes y)) same ∙ tied_itself nat_list_cmp_total (string_bytes y)) old.entries key place

-- an insertion of a key that was not there
pub one_longer : {E : Type 0} (m n : ℕ) (was : Option ℕ) (r : Result (Option ℕ) E) → is_ok r ≡ true → IfOk r (λ o. o ≡ was) → IfOk r (λ o. n ≡ m + (if is_some o then 0 else 1)) → was ≡ None → n ≡ suc m
one_longer m n was (Ok o) ok same long none =
    let one : n ≡ m + 1 = long ∙ ap (λ (x : Option ℕ). m + (if is_some x then 0 else 1)) (same ∙ none) in
    omega (arith, one)
one_longer m n was (Err e) ok same long none = absurd cc

some_same : (a b : ℕ) → ◌≡◌ {A = Option ℕ} (Some a) (Some b) → a ≡ b
some_same a b e = cc

none_some : {P : Type 0} (a : ℕ) → ◌≡◌ {A = Option ℕ} None (Some a) → P
none_some a e = absurd cc

module _ (old new : Names) (name : List ℕ) (place : ℕ) (none : get_by_text old name ≡ None) (next : place ≡ btree_map_len old) (adds : AddsName old new name place) where
  there : get_by_text new name ≡ Some place
  there = adds.looked name ∙ ap (λ b. cond b (Some place) (get_by_text old name)) (ap is_eq (tied_itself nat_list_cmp_total name))

  kept : (text : List ℕ) (k : ℕ) → get_by_text old text ≡ Some k → get_by_text new text ≡ Some k
  kept text k e = adds.looked text ∙ go (is_eq (text_cmp text name)) refl
    where
      go : (b : Bool) → is_eq (text_cmp text name) ≡ b → cond b (Some place) (get_by_text old text) ≡ Some k
      go true t = none_some k (sym none ∙ ap (λ x. get_by_text old x) (sym (tied text name t)) ∙ e)
      go false t = e

  only : (text : List ℕ) (k : ℕ) → get_by_text new text ≡ Some k → (get_by_text old text ≡ Some k) ⊎ ((text ≡ name) × (k ≡ place))
  only text k e = go (is_eq (text_cmp text name)) refl (sym (adds.looked text) ∙ e)
    where
      go : (b : Bool) → is_eq (text_cmp text name) ≡ b → cond b (Some place) (get_by_text old text) ≡ Some k → (get_by_text old text ≡ Some k) ⊎ ((text ≡ name) × (k ≡ place))
      go true t same = inr (tied text name t, some_same k place (sym same))
      go false t same = inl same

  module _ (are : ArePlaces old) where
    bound : (text : List ℕ) (k : ℕ) → get_by_text new text ≡ Some k → k < btree_map_len new
    bound text k e =
        let longer = adds.longer in
        elim (only text k e) [
          | inl was ↦ let low = are.bound text k was in omega (arith, low, longer)
          | inr here ↦ let at = here.1 in omega (arith, at, next, longer)
        ]

    -- no name had the new place
    fresh : (text : List ℕ) (k : ℕ) → get_by_text old text ≡ Some k → k ≡ place → ⊥
    fresh text k e at = let low = are.bound text k e in omega (arith, low, at, next)

    apart : (a b : List ℕ) (k : ℕ) → get_by_text new a ≡ Some k → get_by_text new b ≡ Some k → a ≡ b
    apart a b k first second = elim (only a k first) [
      | inl was ↦ elim (only b k second) [ inl too ↦ are.apart a b k was too | inr here ↦ absurd (fresh a k was here.1) ]
      | inr here ↦ elim (only b k second) [ inl was ↦ absurd (fresh b k was here.1) | inr too ↦ here.0 ∙ sym too.0 ]
    ]

  pub name_added : PlacesName old new name place
  name_added = record { there = there; kept = kept; places = λ are. record { bound = bound are; apart = apart are } }

pub name_found : (names : Names) (name : List ℕ) (place : ℕ) → get_by_text names name ≡ Some place → PlacesName names names name place
name_found names name place at = record { there = at; kept = λ text k e. e; places = λ are. are }

-- ---- a place that is added

got : (xs : List ℕ) (x i k : ℕ) → slice_get (xs ++ x ∷ []) i ≡ Some k → (slice_get xs i ≡ Some k) ⊎ ((i ≡ length xs) × (x ≡ k))
got [] x zero k e = inr (refl, some_same x k e)
got [] x (suc i) k e = none_some k e
got (y ∷ xs) x zero k e = inl e
got (y ∷ xs) x (suc i) k e = elim (got xs x i k e) [ inl was ↦ inl was | inr end ↦ inr (ap suc end.0, end.1) ]

got_before : (xs : List ℕ) (x i k : ℕ) → slice_get xs i ≡ Some k → slice_get (xs ++ x ∷ []) i ≡ Some k
got_before [] x i k e = none_some k e
got_before (y ∷ xs) x zero k e = e
got_before (y ∷ xs) x (suc i) k e = got_before xs x i k e

got_last : (xs : List ℕ) (x : ℕ) → slice_get (xs ++ x ∷ []) (length xs) ≡ Some x
got_last [] x = refl
got_last (y ∷ xs) x = got_last xs x

pub in_turn : (turn next : List ℕ) (others : BTreeSet (ℕ × ℕ)) (m place : ℕ) → m ≡ suc (length turn) → next ≡ turn ++ place ∷ [] → (n k : ℕ) → HasPlace next others n k ↔ (HasPlace turn others n k ⊎ ((m ≡ n) × (place ≡ k)))
in_turn turn next others m place is longer n k = (there, back)
  where
    there : HasPlace next others n k → HasPlace turn others n k ⊎ ((m ≡ n) × (place ≡ k))
    there (inl at) = elim (got turn place at.0 k (subst (λ l. slice_get l at.0 ≡ Some k) longer at.2)) [
      | inl was ↦ inl (inl (at.0, at.1, was))
      | inr end ↦ inr (is ∙ ap suc (sym end.0) ∙ sym at.1, end.1)
    ]
    there (inr other) = inl (inr other)

    back : HasPlace turn others n k ⊎ ((m ≡ n) × (place ≡ k)) → HasPlace next others n k
    back (inl (inl at)) = inl (at.0, at.1, subst (λ l. slice_get l at.0 ≡ Some k) (sym longer) (got_before turn place at.0 k at.2))
    back (inl (inr other)) = inr other
    back (inr same) = inl (length turn, sym same.0 ∙ is, subst (λ l. slice_get l (length turn) ≡ Some k) (sym longer) (got_last turn place ∙ ap Some same.1))

pub out_of_turn : (turn : List ℕ) (others next : BTreeSet (ℕ × ℕ)) (m place : ℕ) → ((q : ℕ × ℕ) → contains pair_cmp next q ≡ cond (is_eq (pair_cmp (m, place) q)) true (contains pair_cmp others q))
    → (n k : ℕ) → HasPlace turn next n k ↔ (HasPlace turn others n k ⊎ ((m ≡ n) × (place ≡ k)))
out_of_turn turn others next m place added n k = (there, back)
  where
    there : HasPlace turn next n k → HasPlace turn others n k ⊎ ((m ≡ n) × (place ≡ k))
    there (inl at) = inl (inl at)
    there (inr other) = elim (chosen _ _ (sym (added (n, k)) ∙ other)) [ inl same ↦ inr (pair_tied m place n k same) | inr was ↦ inl (inr was) ]

    back : HasPlace turn others n k ⊎ ((m ≡ n) × (place ≡ k)) → HasPlace turn next n k
    back (inl (inl at)) = inl at
    back (inl (inr other)) = inr (added (n, k) ∙ either _ _ (inr other))
    back (inr same) = inr (added (n, k) ∙ either _ _ (inl ((λ i. is_eq (pair_cmp (same.0 i, same.1 i) (n, k))) ∙ pair_itself n k)))

-- ---- one more row

by_before : (rows : List Row) (r : Row) (n : ℕ) (author : List ℕ) → IsByAuthor rows n author → IsByAuthor (rows ++ r ∷ []) n author
by_before rows r n author it = (it.0, before rows r it.0 it.1, it.2, it.3)

pub authors_none : (it : Authors) → it.names.entries ≡ [] → it.turn.items ≡ [] → it.others.keys ≡ [] → AreAuthorsOf it []
authors_none it names turn others = record {
  places = record { bound = λ text k e. absurd (nothing text k e); apart = λ a b k e f. absurd (nothing a k e) };
  known = λ n k h. absurd (nowhere n k h);
  by = λ n account utf8. (λ kept. absurd (nothing account kept.0 kept.1), λ r. absurd r.1);
}
  where
    nothing : (text : List ℕ) (k : ℕ) → get_by_text it.names text ≡ Some k → ⊥
    nothing text k e = none_some k (sym (ap (λ (es : List (String Global × ℕ)). lookup (λ (x : String Global). is_eq (text_cmp text (string_bytes x))) es) names) ∙ e)

    nowhere : (n k : ℕ) → HasPlace it.turn.items it.others n k → ⊥
    nowhere n k (inl at) = none_some k (subst (λ l. slice_get l at.0 ≡ Some k) turn at.2)
    nowhere n k (inr there) = let bad : false ≡ true = sym (ap (λ (ks : List (ℕ × ℕ)). list_any (λ x. is_eq (pair_cmp (n, k) x)) ks) others) ∙ there in cc

pub author_skipped : (authors : Authors) (rows : List Row) (r : Row) → ((n : ℕ) (t : List ℕ) → column r 0 ≡ number n → column r 1 ≡ Text t → ¬ (IsUtf8 t)) → AreAuthorsOf authors rows → AreAuthorsOf authors (rows ++ r ∷ [])
author_skipped authors rows r none are = record {
  places = are.places;
  known = are.known;
  by = λ n account utf8. (
    λ there. by_before rows r n account ((are.by n account utf8).0 there),
    λ it. elim (split rows r it.0 it.1) [
      | inl early ↦ (are.by n account utf8).1 (it.0, early, it.2, it.3)
      | inr same ↦ absurd (none n account (ap (λ (x : Row). column x 0) (sym same) ∙ it.2) (ap (λ (x : Row). column x 1) (sym same) ∙ it.3) utf8)
    ],
  );
}

module _ (old new : Authors) (rows : List Row) (r : Row) (m place : ℕ) (author : List ℕ) (first : column r 0 ≡ number m) (second : column r 1 ≡ Text author) (placed : PlacesName old.names new.names author place)
    (added : (n k : ℕ) → HasPlace new.turn.items new.others n k ↔ (HasPlace old.turn.items old.others n k ⊎ ((m ≡ n) × (place ≡ k)))) (are : AreAuthorsOf old rows) where
  places : ArePlaces new.names
  places = placed.places are.places

  known : (n k : ℕ) → HasPlace new.turn.items new.others n k → (text : List ℕ) × (get_by_text new.names text ≡ Some k)
  known n k has = elim ((added n k).0 has) [
    | inl was ↦ let it = are.known n k was in (it.0, placed.kept it.0 k it.1)
    | inr same ↦ (author, placed.there ∙ ap Some same.1)
  ]

  module _ (n : ℕ) (account : List ℕ) (utf8 : IsUtf8 account) where
    by_there : IsKeptBy new n account → IsByAuthor (rows ++ r ∷ []) n account
    by_there kept = elim ((added n kept.0).0 kept.2) [
      | inl was ↦
          let it = are.known n kept.0 was in
          let same : it.0 ≡ account = places.apart it.0 account kept.0 (placed.kept it.0 kept.0 it.1) kept.1 in
          by_before rows r n account ((are.by n account utf8).0 (kept.0, subst (λ t. get_by_text old.names t ≡ Some kept.0) same it.1, was))
      | inr same ↦
          let is : author ≡ account = places.apart author account kept.0 (placed.there ∙ ap Some same.1) kept.1 in
          (r, last rows r, first ∙ ap number same.0, second ∙ ap Text is)
    ]

    by_back : IsByAuthor (rows ++ r ∷ []) n account → IsKeptBy new n account
    by_back it = elim (split rows r it.0 it.1) [
      | inl early ↦ let kept = (are.by n account utf8).1 (it.0, early, it.2, it.3) in (kept.0, placed.kept account kept.0 kept.1, (added n kept.0).1 (inl kept.2))
      | inr same ↦
          let a : m ≡ n = numbers_same _ _ (sym first ∙ ap (λ (x : Row). column x 0) (sym same) ∙ it.2) in
          let b : author ≡ account = texts_same _ _ (sym second ∙ ap (λ (x : Row). column x 1) (sym same) ∙ it.3) in
          (place, subst (λ t. get_by_text new.names t ≡ Some place) b placed.there, (added n place).1 (inr (a, refl)))
    ]

  pub author_added : AreAuthorsOf new (rows ++ r ∷ [])
  author_added = record { places = places; known = known; by = λ n account utf8. (by_there n account utf8, by_back n account utf8) }

-- ---- who wrote it

module _ (authors : Authors) (rows : List Row) (are : AreAuthorsOf authors rows) (n : ℕ) (account : List ℕ) (utf8 : IsUtf8 account) where
  pub by_place : (place : ℕ) → get_by_text authors.names account ≡ Some place → HasPlace authors.turn.items authors.others n place ↔ IsByAuthor rows n account
  by_place place at = (
    λ has. (are.by n account utf8).0 (place, at, has),
    λ it. let kept = (are.by n account utf8).1 it in subst (λ k. HasPlace authors.turn.items authors.others n k) (some_same kept.0 place (sym kept.1 ∙ at)) kept.2,
  )

  pub by_none : get_by_text authors.names account ≡ None → IsByAuthor rows n account → ⊥
  by_none none it = let kept = (are.by n account utf8).1 it in none_some kept.0 (sym none ∙ kept.1)
