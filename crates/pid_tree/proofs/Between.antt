-- The loop that looks for a child between two paths.
use Rattle.std.proofs.Common.{◌≡◌, ℕ, Bool, true, false, cond, ◌&&◌, not, filter, List, [], ◌∷◌, Option, Some, None, refl, sym, ap, subst, ◌∙◌}
use mathlib.Core.Bool.{false≢true}
use Rattle.std.specs.Prelude.{IsSome, IsNone}
use Rattle.std.specs.Ordering.{is_eq, is_le, is_lt}
use Rattle.std.specs.Cmp.{on_total}
use Rattle.std.specs.Map.{lookup}
use Rattle.std.specs.BTreeMap.Range.{IsInRange, range_contains, entries_between}
use Rattle.std.specs.declared.ops.Bound.TheVariants.{Included}
use Rattle.std.proofs.lemmas.Cmp.{nat_list_cmp_total, tied_itself}
use Rattle.std.proofs.lemmas.Map.Views.{range_contains-from_IsInRange}
use Rattle.std.specs.FinMap.{get}
use Rattle.pid_file.specs.declared.path.Path.{Path}
use Rattle.pid_file.specs.PathTexts.{IsPath, path_text, parent_of}
use Rattle.pid_file.specs.Steps.Paths.{path_cmp}
use Rattle.pid_file.specs.Trees.{TreeMap, text_cmp}
use Rattle.pid_file.specs.Items.{tree_of}
use Rattle.pid_tree.specs.Parents.{HasChild}
use Rattle.pid_tree.specs.Steps.Between.{HasNoneBetween}
use Rattle.pid_file.proofs.Kin.{same_path}
use Rattle.pid_file.proofs.Maps.{same_texts, is_equal, get-tree}

abbrev pub Items : Type 0
Items = List (Path × List ℕ)

abbrev pub value_in : Items → Path → Option (List ℕ)
value_in es q = lookup (λ k. is_eq (path_cmp q k)) es

-- of the items between, those that are left: each is in the tree, and each child is among them
pub record Remain (t : TreeMap) (path least greatest : Path) (left : Items) : Type 0 where
  pub held : (q : Path) → IsSome (value_in left q) → IsSome (get t (path_text q))
  pub among : (child : Path) → IsPath child → parent_of child ≡ Some path → IsInRange path_cmp (Included least) (Included greatest) child → IsSome (get t (path_text child)) → IsSome (value_in left child)

kept_when : (b : Bool) (x : List ℕ) (o o' : Option (List ℕ)) → (IsSome o → IsSome o') → IsSome (cond b (Some x) o) → IsSome (cond b (Some x) o')
kept_when true x o o' f h = refl
kept_when false x o o' f h = f h

-- a test of texts keeps what passes it
filtered : (test : List ℕ → Bool) (es : Items) (q : Path) → test (path_text q) ≡ true → IsSome (value_in es q) → IsSome (value_in (filter (λ e. test (path_text e.0)) es) q)
filtered test [] q h some = some
filtered test (e ∷ es) q h some =
    elim (is_eq (path_cmp q e.0)) as (λ b. is_eq (path_cmp q e.0) ≡ b → IsSome (cond b (Some e.1) (value_in es q)) → IsSome (value_in (cond (test (path_text e.0)) (e ∷ filter (λ e. test (path_text e.0)) es) (filter (λ e. test (path_text e.0)) es)) q)) [
      | true ↦ λ is _.
          let passes : test (path_text e.0) ≡ true = ap test (sym (same_texts _ _ (is_equal _ is))) ∙ h in
          rw passes (rw is refl)
      | false ↦ λ is some. elim (test (path_text e.0)) as (λ b. IsSome (value_in (cond b (e ∷ filter (λ e. test (path_text e.0)) es) (filter (λ e. test (path_text e.0)) es)) q)) [
        | true ↦ rw is (filtered test es q h some)
        | false ↦ filtered test es q h some
      ]
    ] refl some

unfiltered : (test : Path × List ℕ → Bool) (es : Items) (q : Path) → IsSome (value_in (filter test es) q) → IsSome (value_in es q)
unfiltered test [] q some = some
unfiltered test (e ∷ es) q some =
    elim (test e) as (λ b. IsSome (value_in (cond b (e ∷ filter test es) (filter test es)) q) → IsSome (cond (is_eq (path_cmp q e.0)) (Some e.1) (value_in es q))) [
      | true ↦ λ some. kept_when _ _ _ _ (unfiltered test es q) some
      | false ↦ λ some. kept_any _ _ _ (unfiltered test es q some)
    ] some
  where
    kept_any : (b : Bool) (x : List ℕ) (o : Option (List ℕ)) → IsSome o → IsSome (cond b (Some x) o)
    kept_any true x o h = refl
    kept_any false x o h = h

pub all_remain : (es left : Items) (t : TreeMap) (path least greatest : Path) → tree_of es ≡ t → left ≡ entries_between path_cmp (Included least) (Included greatest) es → Remain t path least greatest left
all_remain es left t path least greatest view is =
    let gets : (q : Path) → value_in es q ≡ get t (path_text q) = λ q. sym (get-tree es q) ∙ ap (λ (m : TreeMap). get m (path_text q)) view in
    record {
      held = λ q some. subst (λ (o : Option (List ℕ)). IsSome o) (gets q) (unfiltered (λ e. range_contains path_cmp (Included least) (Included greatest) e.0) es q (subst (λ (l : Items). IsSome (value_in l q)) is some));
      among = λ child in_range is_child between some.
          subst (λ (l : Items). IsSome (value_in l child)) (sym is)
          (filtered (λ k. is_le (text_cmp (path_text least) k) && not (is_lt (text_cmp (path_text greatest) k))) es child (range_contains-from_IsInRange (on_total path_text nat_list_cmp_total) (Included least) (Included greatest) child between) (subst (λ (o : Option (List ℕ)). IsSome o) (sym (gets child)) some));
    }

-- the first of what is left is no child
pub fewer_remain : (t : TreeMap) (path least greatest : Path) (s u : Items) (e : Path × List ℕ) → Remain t path least greatest s → s ≡ e ∷ u → IsPath e.0 → (parent_of e.0 ≡ Some path → ⊥) → Remain t path least greatest u
fewer_remain t path least greatest s u e r first e_in_range no_child = record {
  held = λ q some. r.held q (subst (λ (l : Items). IsSome (value_in l q)) (sym first) (kept_any (is_eq (path_cmp q e.0)) e.1 (value_in u q) some));
  among = λ child in_range is_child between some.
      elim (is_eq (path_cmp child e.0)) as (λ b. is_eq (path_cmp child e.0) ≡ b → IsSome (cond b (Some e.1) (value_in u child)) → IsSome (value_in u child)) [
        | true ↦ λ is _. absurd (no_child (ap parent_of (sym (same_path child e.0 in_range e_in_range (same_texts _ _ (is_equal _ is)))) ∙ is_child))
        | false ↦ λ is some. some
      ] refl (subst (λ (l : Items). IsSome (value_in l child)) first (r.among child in_range is_child between some));
}
  where
    kept_any : (b : Bool) (x : List ℕ) (o : Option (List ℕ)) → IsSome o → IsSome (cond b (Some x) o)
    kept_any true x o h = refl
    kept_any false x o h = h

-- the first of what is left is a child
pub child_found : (t : TreeMap) (path least greatest : Path) (s u : Items) (e : Path × List ℕ) → Remain t path least greatest s → s ≡ e ∷ u → IsPath e.0 → parent_of e.0 ≡ Some path → HasChild t path
child_found t path least greatest s u e r first e_in_range is_child = record {
  child = e.0;
  in_range = e_in_range;
  is_child = is_child;
  there = r.held e.0 (subst (λ (l : Items). IsSome (value_in l e.0)) (sym first) (rw (tied_itself (on_total path_text nat_list_cmp_total) e.0) refl));
}

-- nothing is left
pub none_remain : (t : TreeMap) (path least greatest : Path) (s : Items) → Remain t path least greatest s → s ≡ [] → HasNoneBetween t path least greatest
none_remain t path least greatest s r none child in_range is_child between =
    elim (get t (path_text child)) as (λ o. (IsSome o → ⊥) → IsNone o) [
      | None ↦ λ _. refl
      | Some x ↦ λ no. absurd (no refl)
    ] (λ some. false≢true (subst (λ (l : Items). IsSome (value_in l child)) none (r.among child in_range is_child between some)))
