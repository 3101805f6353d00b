-- The set of the paths of items, and what makes rows of items those of a registry.
use Rattle.std.proofs.Common.{◌≡◌, ◌⊎◌, ◌&&◌, inl, inr, ℕ, ◌≤◌, List, [], ◌∷◌, ◌++◌, length, Bool, IsTrue, true, false, nat_le, cond, refl, sym, ap, subst, ◌∙◌, arith, le-leb}
use Rattle.std.proofs.lemmas.Bool.{false≢true, leb-true}
use Rattle.std.specs.Prelude.{◌↔◌}
use Rattle.std.specs.List.{list_any}
use Rattle.std.specs.Ordering.{is_eq}
use Rattle.std.specs.BTreeSet.{BTreeSet, contains}
use Rattle.std.specs.Cmp.Lexicographic.{nat_list_cmp_total}
use Rattle.std.proofs.lemmas.Cmp.{tied_itself}
use Rattle.sqlite.specs.declared.types.Value.{Value}
use Rattle.sqlite.specs.declared.types.Value.TheVariants.{Text}
use Rattle.sqlite.specs.Order.{Row, column}
use Rattle.sqlite_rules.specs.Lists.{Has}
use Rattle.pid_file.specs.declared.path.Path.{Path}
use Rattle.pid_ident.specs.PathTexts.{IsPath, path_text, parent_of}
use Rattle.pid_file.specs.Steps.Paths.{path_cmp}
use Rattle.pid_ident.specs.Trees.{text_cmp}
use Rattle.pid_ident.specs.Words.{is_name}
use Rattle.pid_moderation.specs.CheckTables.{most_items}
use Rattle.pid_tables.proofs.OfRows.SetLemmas.{tied}
use Rattle.pid_file.proofs.Kin.{same_path, parent_in_range}
use Rattle.pid_tables.specs.Check.Conditions.{HasValue, HasItemRow, AreItems}
use Rattle.pid_tables.specs.Check.Steps.PathSets.{ArePathsOf, HasParent, HasPath, HasPathText, HasEachParent, IsItemAlone}
use Rattle.pid_tables.specs.Check.Steps.Keeping.{AreEach, IsPartJudged, TakesItems}
use Rattle.pid_tables.specs.declared.check.item.Items.{Items}

-- ---- a list with one more element

pub split : {X : Type 0} (xs : List X) (x y : X) → Has (xs ++ x ∷ []) y → Has xs y ⊎ (y ≡ x)
split [] x y (inl same) = inr same
split [] x y (inr none) = absurd none
split (z ∷ xs) x y (inl same) = inl (inl same)
split (z ∷ xs) x y (inr later) = elim (split xs x y later) [ inl there ↦ inl (inr there) | inr last ↦ inr last ]

pub before : {X : Type 0} (xs : List X) (x y : X) → Has xs y → Has (xs ++ x ∷ []) y
before [] x y h = absurd h
before (z ∷ xs) x y (inl same) = inl same
before (z ∷ xs) x y (inr later) = inr (before xs x y later)

pub last : {X : Type 0} (xs : List X) (x : X) → Has (xs ++ x ∷ []) x
last [] x = inl refl
last (z ∷ xs) x = inr (last xs x)

pub value_before : (rows : List Row) (r : Row) (at : ℕ) (v : Value) → HasValue rows at v → HasValue (rows ++ r ∷ []) at v
value_before rows r at v h = (h.0, before rows r h.0 h.1, h.2)

pub texts_same : (p q : List ℕ) → Text p ≡ Text q → p ≡ q
texts_same p q e = cc

pub both : (one other : Bool) → IsTrue (one && other) ↔ (IsTrue one × IsTrue other)
both true other = (λ yes. (refl, yes), λ it. it.1)
both false other = (λ no. absurd (false≢true no), λ it. it.0)

pub all_three : (one two three : Bool) → IsTrue (one && (two && three)) ↔ (IsTrue one × IsTrue two × IsTrue three)
all_three one two three = (
  λ yes. let first = (both one (two && three)).0 yes in let rest = (both two three).0 first.1 in (first.0, rest.0, rest.1),
  λ it. (both one (two && three)).1 (it.0, (both two three).1 (it.1, it.2)),
)

-- one row more, and each is so
pub one_row : (Is : Row → Type 0) (rows : List Row) (r : Row) (good row : Bool) → (IsTrue row ↔ Is r) → IsPartJudged (AreEach Is) rows good → IsPartJudged (AreEach Is) (rows ++ r ∷ []) (good && row)
one_row Is rows r good row one are = (
  λ yes x h.
      let each = (both good row).0 yes in
      elim (split rows r x h) [ inl early ↦ are.0 each.0 x early | inr same ↦ subst Is (sym same) (one.0 each.1) ],
  λ all. (both good row).1 (are.1 (λ x h. all x (before rows r x h)), one.1 (all r (last rows r))),
)

-- each of no rows is
pub no_row : (Is : Row → Type 0) → IsPartJudged (AreEach Is) [] true
no_row Is = (λ yes r h. absurd h, λ all. refl)

-- ---- the set

pub no_paths : (paths : BTreeSet Path) → paths.keys ≡ [] → ArePathsOf paths []
no_paths paths none path = (λ there. absurd (let bad : false ≡ true = sym (ap (λ (ks : List Path). list_any (λ k. is_eq (path_cmp path k)) ks) none) ∙ there in cc), λ it. absurd it.3.1)

text_before : (rows : List Row) (r : Row) (text : List ℕ) → HasPathText rows text → HasPathText (rows ++ r ∷ []) text
text_before rows r text it = (it.0, it.1, it.2, value_before rows r 0 _ it.3)

pub path_skipped : (paths : BTreeSet Path) (rows : List Row) (r : Row) → ((p : Path) → IsPath p → column r 0 ≡ Text (path_text p) → ⊥) → ArePathsOf paths rows → ArePathsOf paths (rows ++ r ∷ [])
path_skipped paths rows r none are path = (
  λ there. text_before rows r _ ((are path).0 there),
  λ it. elim (split rows r it.3.0 it.3.1) [
    | inl early ↦ (are path).1 (it.0, it.1, it.2, (it.3.0, early, it.3.2))
    | inr same ↦ absurd (none it.0 it.1 (ap (λ (x : Row). column x 0) (sym same) ∙ it.3.2))
  ],
)

chosen : (b c : Bool) → cond b true c ≡ true → (b ≡ true) ⊎ (c ≡ true)
chosen true c h = inl refl
chosen false c h = inr h

either : (b c : Bool) → (b ≡ true) ⊎ (c ≡ true) → cond b true c ≡ true
either true c h = refl
either false c (inl h) = absurd cc
either false c (inr h) = h

pub path_added : (paths next : BTreeSet Path) (rows : List Row) (r : Row) (p : Path) → IsPath p → column r 0 ≡ Text (path_text p)
    → ((q : Path) → contains path_cmp next q ≡ cond (is_eq (path_cmp p q)) true (contains path_cmp paths q)) → ArePathsOf paths rows → ArePathsOf next (rows ++ r ∷ [])
path_added paths next rows r p in_range is added are path = (
  λ there. elim (chosen _ _ (sym (added path) ∙ there)) [
    | inl same ↦ (p, in_range, tied (path_text p) (path_text path) same, (r, last rows r, is))
    | inr was ↦ text_before rows r _ ((are path).0 was)
  ],
  λ it. added path ∙ either _ _ (elim (split rows r it.3.0 it.3.1) [
    | inl early ↦ inr ((are path).1 (it.0, it.1, it.2, (it.3.0, early, it.3.2)))
    | inr same ↦ inl (
        let e : path_text p ≡ path_text path = texts_same _ _ (sym is ∙ ap (λ (x : Row). column x 0) (sym same) ∙ it.3.2) ∙ it.2 in
        ap (λ t. is_eq (text_cmp t (path_text path))) e ∙ ap is_eq (tied_itself nat_list_cmp_total (path_text path)))
  ]),
)

module _ (paths : BTreeSet Path) (rows : List Row) (are : ArePathsOf paths rows) (p : Path) where
  pub path_known : contains path_cmp paths p ≡ true → HasItemRow rows p
  path_known there = let it = (are p).0 there in subst (λ t. HasValue rows 0 (Text t)) it.2 it.3

  pub path_listed : IsPath p → HasItemRow rows p → contains path_cmp paths p ≡ true
  path_listed range has = (are p).1 (p, range, refl, has)

-- ---- rows by the set

pub two : (r : Row) → length r ≡ 2 → r ≡ column r 0 ∷ column r 1 ∷ []
two [] e = absurd cc
two (x ∷ []) e = absurd (omega (arith, e))
two (x ∷ y ∷ []) e = refl
two (x ∷ y ∷ z ∷ r) e = absurd (omega (arith, e))

module _ (r : Row) where
  pub item_made : length r ≡ 2 → HasPath r → ((name : List ℕ) × (column r 1 ≡ Text name) × (is_name name ≡ true)) → IsItemAlone r
  item_made len at name = record { path = at.0; name = name.0; is = two r len ∙ (λ i. at.2 i ∷ name.1 i ∷ []); in_range = at.1; good = name.2 }

  pub item_length : IsItemAlone r → length r ≡ 2
  item_length it = ap length it.is

  pub item_path : IsItemAlone r → HasPath r
  item_path it = (it.path, it.in_range, ap (λ (x : Row). column x 0) it.is)

  pub item_name : IsItemAlone r → (name : List ℕ) × (column r 1 ≡ Text name) × (is_name name ≡ true)
  item_name it = (it.name, ap (λ (x : Row). column x 1) it.is, it.good)

-- ---- the parents of paths

pub path_itself : (p : Path) → is_eq (path_cmp p p) ≡ true
path_itself p = ap is_eq (tied_itself nat_list_cmp_total (path_text p))

-- a path that is equal to one in range is that path, if it is in range
pub parent_kept : (paths : BTreeSet Path) (p : Path) → IsPath p → HasParent paths p → (q : Path) → is_eq (path_cmp q p) ≡ true → IsPath q → HasParent paths q
parent_kept paths p range has q same in_range above e =
    let is : q ≡ p = same_path q p in_range range (tied (path_text q) (path_text p) same) in
    has above (sym (ap parent_of is) ∙ e)

-- ---- all rows

module _ (paths : BTreeSet Path) (rows : List Row) (are : ArePathsOf paths rows) where
  pub items_made : length rows ≤ most_items → AreEach IsItemAlone rows → HasEachParent paths → AreItems rows
  items_made few all hold = record {
    each = λ r h.
        let it = all r h in
        let there = path_listed paths rows are it.path it.in_range (r, h, ap (λ (x : Row). column x 0) it.is) in
        record { path = it.path; name = it.name; is = it.is; in_range = it.in_range; good = it.good; parent = λ above e. path_known paths rows are above (hold it.path there it.in_range above e) };
    limit = few;
  }

  pub parents_of : AreItems rows → HasEachParent paths
  parents_of good p there range above e =
      let has = path_known paths rows are p there in
      let it = good.each has.0 has.1 in
      let same : it.path ≡ p = same_path it.path p it.in_range range (texts_same _ _ (sym (ap (λ (x : Row). column x 0) it.is) ∙ has.2)) in
      path_listed paths rows are above (parent_in_range p above e range) (it.parent above (ap parent_of same ∙ e))

pub items_alone : (rows : List Row) → AreItems rows → AreEach IsItemAlone rows
items_alone rows good r h = let it = good.each r h in record { path = it.path; name = it.name; is = it.is; in_range = it.in_range; good = it.good }

pub items_judged : (rows : List Row) (it : Items) (hold : Bool) → TakesItems rows it → (IsTrue hold ↔ HasEachParent it.paths) → IsPartJudged AreItems rows (it.good && (nat_le it.count most_items && hold))
items_judged rows it hold taken held =
    let parts = all_three it.good (nat_le it.count most_items) hold in (
      λ yes. let of = parts.0 yes in items_made it.paths rows taken.paths (subst (λ n. n ≤ most_items) taken.count (leb-true it.count most_items of.1)) (taken.good.0 of.0) (held.0 of.2),
      λ good. parts.1 (taken.good.1 (items_alone rows good), le-leb it.count most_items (subst (λ n. n ≤ most_items) (sym taken.count) good.limit), held.1 (parents_of it.paths rows taken.paths good)),
    )
