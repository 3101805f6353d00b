-- The set of the names of accounts.
use Rattle.std.proofs.Common.{◌≡◌, inl, inr, ℕ, List, [], ◌∷◌, ◌++◌, Bool, true, false, refl, sym, ap, ◌∙◌, Ordering, Less, Equal, Greater}
use Rattle.std.specs.Prelude.{◌||◌, IsUtf8, string_bytes, String, is_ok, OnOk, Result, Ok, Err}
use Rattle.std.specs.List.{list_any}
use Rattle.std.specs.Ordering.{is_eq, match_ordering}
use Rattle.std.specs.BTreeSet.{BTreeSet, contains_text, insert_key}
use Rattle.std.specs.String.{string_cmp}
use Rattle.std.specs.declared.alloc.Global.{Global}
use Rattle.std.specs.Cmp.Lexicographic.{nat_list_cmp_total}
use Rattle.std.proofs.lemmas.Bool.{false≢true, or_cases, or_left, or_right}
use Rattle.std.proofs.lemmas.Cmp.{tied_itself}
use Rattle.sqlite.specs.declared.types.Value.TheVariants.{Text}
use Rattle.sqlite.specs.Order.{Row, column}
use Rattle.pid_ident.specs.Trees.{text_cmp}
use Rattle.pid_tables.proofs.OfRows.SetLemmas.{tied}
use Rattle.pid_tables.specs.Check.Steps.NameSets.{AreNamesOf}
use Rattle.pid_tables.proofs.OfCheck.ItemFacts.{split, last, value_before, texts_same}

twice : (a b c : Bool) → a ≡ b → (b || c) ≡ (a || (b || c))
twice true b c e = ap (λ x. x || c) (sym e)
twice false b c e = refl

swapped : (a b c : Bool) → (a || (b || c)) ≡ (b || (a || c))
swapped true true c = refl
swapped true false c = refl
swapped false true c = refl
swapped false false c = refl

-- a test of keys, that keys which tie pass alike, after an insertion
pub inserted : {K : Type 0} (cmp : K → K → Ordering) (test : K → Bool) → ((x y : K) → cmp x y ≡ Equal → test x ≡ test y) → (keys : List K) (k : K) → list_any test (insert_key cmp keys k) ≡ (test k || list_any test keys)
inserted cmp test alike [] k = refl
inserted cmp test alike (x ∷ xs) k = go (cmp k x) refl (inserted cmp test alike xs k)
  where
    go : (o : Ordering) → cmp k x ≡ o → list_any test (insert_key cmp xs k) ≡ (test k || list_any test xs)
        → list_any test (match_ordering o (k ∷ x ∷ xs) (x ∷ xs) (x ∷ insert_key cmp xs k)) ≡ (test k || (test x || list_any test xs))
    go Less is rest = refl
    go Equal is rest = twice (test k) (test x) (list_any test xs) (alike k x is)
    go Greater is rest = ap (λ b. test x || b) rest ∙ swapped (test x) (test k) (list_any test xs)

pub no_names : (names : BTreeSet (String Global)) → names.keys ≡ [] → AreNamesOf names []
no_names names none name utf8 = (λ there. absurd (false≢true (sym (ap (list_any (λ k. is_eq (text_cmp name (string_bytes k)))) none) ∙ there)), λ it. absurd it.1)

pub name_skipped : (names : BTreeSet (String Global)) (rows : List Row) (r : Row) → ((t : List ℕ) → column r 0 ≡ Text t → ¬ (IsUtf8 t)) → AreNamesOf names rows → AreNamesOf names (rows ++ r ∷ [])
name_skipped names rows r none are name utf8 = (
  λ there. value_before rows r 0 _ ((are name utf8).0 there),
  λ it. elim (split rows r it.0 it.1) [
    | inl early ↦ (are name utf8).1 (it.0, early, it.2)
    | inr same ↦ absurd (none name (ap (λ (x : Row). column x 0) (sym same) ∙ it.2) utf8)
  ],
)

equal : (o : Ordering) → o ≡ Equal → is_eq o ≡ true
equal o e = ap is_eq e

pub name_added : (names next : BTreeSet (String Global)) (key : String Global) (rows : List Row) (r : Row) → column r 0 ≡ Text (string_bytes key) → next.keys ≡ insert_key string_cmp names.keys key
    → AreNamesOf names rows → AreNamesOf next (rows ++ r ∷ [])
name_added names next key rows r is keys are name utf8 =
    let test = λ (k : String Global). is_eq (text_cmp name (string_bytes k)) in
    let now : contains_text next name ≡ (test key || contains_text names name) =
    ap (list_any test) keys ∙ inserted string_cmp test (λ x y e. ap (λ t. is_eq (text_cmp name t)) (tied (string_bytes x) (string_bytes y) (equal _ e))) names.keys key in (
      λ there. elim (or_cases _ _ (sym now ∙ there)) [
        | inl same ↦ (r, last rows r, is ∙ ap Text (sym (tied name (string_bytes key) same)))
        | inr was ↦ value_before rows r 0 _ ((are name utf8).0 was)
      ],
      λ it. now ∙ elim (split rows r it.0 it.1) [
        | inl early ↦ or_right _ _ ((are name utf8).1 (it.0, early, it.2))
        | inr same ↦ or_left _ _ (
            let e : string_bytes key ≡ name = texts_same _ _ (sym is ∙ ap (λ (x : Row). column x 0) (sym same) ∙ it.2) in
            ap (λ t. is_eq (text_cmp name t)) e ∙ ap is_eq (tied_itself nat_list_cmp_total name))
      ],
    )

pub on_is_ok : {X E : Type 0} {P : Type 0} (r : Result X E) → is_ok r ≡ true → OnOk r P → P
on_is_ok (Ok x) h p = p
on_is_ok (Err e) h p = absurd (false≢true h)
