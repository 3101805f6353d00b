-- A path taken away.
use Rattle.std.proofs.Common.{◌≡◌, ℕ, Bool, true, false, cond, List, [], ◌∷◌, map, Option, Some, None, refl, sym, ap, subst, ◌∙◌}
use Rattle.std.proofs.Common.{Bor}
use Rattle.std.specs.Option.{option_copied}
use mathlib.Core.Bool.{false≢true, true≢false}
use Rattle.std.specs.Prelude.{IsSome, IfSome, IsTrue, is_some}
use Rattle.std.specs.declared.cmp.Ordering.TheVariants.{Less}
use Rattle.std.specs.Ordering.{is_eq, eq_by_cmp}
use Rattle.std.specs.Map.{remove_entry}
use Rattle.std.specs.List.{AllByRecursion}
use Rattle.std.specs.List.Sorted.{IsStrictlySortedBy}
use Rattle.std.proofs.lemmas.Cmp.{nat_list_cmp_total, tied_itself}
use Rattle.std.specs.FinMap.{get, remove, get-from_entries, get-remove, same_map}
use Rattle.std.specs.FinMap.Entries.{find as value_at}
use Rattle.pid_file.specs.declared.path.Path.{Path}
use Rattle.pid_file.specs.PathTexts.{IsPath, path_text, parent_of}
use Rattle.pid_file.specs.Steps.Paths.{path_cmp}
use Rattle.pid_file.specs.Words.{is_name}
use Rattle.pid_file.specs.Trees.{TreeMap, IsTree, text_cmp}
use Rattle.pid_file.specs.Items.{item_of, tree_of}
use Rattle.pid_tree.specs.Parents.{HasChild}
use Rattle.pid_file.proofs.Kin.{same_path, parent_in_range}
use Rattle.pid_file.proofs.Maps.{same_texts, is_equal}

missing : (k : Path) (es : List (Path × List ℕ)) → AllByRecursion (λ y. path_cmp k y ≡ Less) (map (λ e. e.0) es) → value_at text_cmp (path_text k) (map item_of es) ≡ None
missing k [] h = refl
missing k (e ∷ es) h = rw h.0 (missing k es h.1)

none_either : (b : Bool) → cond {A = Option (List ℕ)} b None None ≡ None
none_either true = refl
none_either false = refl

apart : (b c : Bool) (x : List ℕ) (o : Option (List ℕ)) → (b ≡ true → c ≡ true → ⊥) → cond b (Some x) (cond c None o) ≡ cond c None (cond b (Some x) o)
apart true true x o h = absurd (h refl refl)
apart true false x o h = refl
apart false c x o h = refl

removed_value : (es : List (Path × List ℕ)) (p : Path) (q : List ℕ) → IsStrictlySortedBy path_cmp (map (λ e. e.0) es) → value_at text_cmp q (map item_of (remove_entry (λ k. is_eq (path_cmp p k)) es)) ≡ cond (is_eq (text_cmp q (path_text p))) None (value_at text_cmp q (map item_of es))
unfolding IsStrictlySortedBy
removed_value [] p q h = sym (none_either (is_eq (text_cmp q (path_text p))))
removed_value (e ∷ es) p q h =
    elim (is_eq (path_cmp p e.0)) as (λ b. is_eq (path_cmp p e.0) ≡ b → value_at text_cmp q (map item_of (cond b es (e ∷ remove_entry (λ k. is_eq (path_cmp p k)) es))) ≡ cond (is_eq (text_cmp q (path_text p))) None (value_at text_cmp q (map item_of (e ∷ es)))) [
      | true ↦ λ t.
          let same : path_text p ≡ path_text e.0 = same_texts _ _ (is_equal _ t) in
          subst (λ (k : List ℕ). value_at text_cmp q (map item_of es) ≡ cond (is_eq (text_cmp q k)) None (cond (is_eq (text_cmp q (path_text e.0))) (Some e.1) (value_at text_cmp q (map item_of es)))) (sym same)
          (elim (is_eq (text_cmp q (path_text e.0))) as (λ b. is_eq (text_cmp q (path_text e.0)) ≡ b → value_at text_cmp q (map item_of es) ≡ cond b None (cond b (Some e.1) (value_at text_cmp q (map item_of es)))) [
            | true ↦ λ u. ap (λ (k : List ℕ). value_at text_cmp k (map item_of es)) (same_texts q (path_text e.0) (is_equal _ u)) ∙ missing e.0 es h.0
            | false ↦ λ u. refl
          ] refl)
      | false ↦ λ t.
          ap (cond (is_eq (text_cmp q (path_text e.0))) (Some e.1)) (removed_value es p q h.1)
          ∙ apart (is_eq (text_cmp q (path_text e.0))) (is_eq (text_cmp q (path_text p))) e.1 (value_at text_cmp q (map item_of es)) (λ u v.
          let qe = same_texts q (path_text e.0) (is_equal _ u) in
          let qp = same_texts q (path_text p) (is_equal _ v) in
          true≢false (sym (ap is_eq (tied_itself nat_list_cmp_total (path_text p))) ∙ ap (λ (k : List ℕ). is_eq (text_cmp (path_text p) k)) (sym qp ∙ qe) ∙ t))
    ] refl

pub tree-remove : (es : List (Path × List ℕ)) (p : Path) → IsStrictlySortedBy path_cmp (map (λ e. e.0) es) → tree_of (remove_entry (λ k. is_eq (path_cmp p k)) es) ≡ remove (tree_of es) (path_text p)
tree-remove es p h = same_map nat_list_cmp_total same_texts _ _ (λ q.
    get-from_entries nat_list_cmp_total _ q ∙ removed_value es p q h
    ∙ ap (cond (is_eq (text_cmp q (path_text p))) None) (sym (get-from_entries nat_list_cmp_total (map item_of es) q)) ∙ sym (get-remove nat_list_cmp_total (tree_of es) (path_text p) q))

still : (b : Bool) (o : Option (List ℕ)) → IsSome (cond b None o) → (b ≡ false) × IsSome o
still true o h = absurd (false≢true h)
still false o h = (refl, h)

stays : (b : Bool) (o : Option (List ℕ)) → b ≡ false → IsSome o → IsSome (cond b None o)
stays true o e h = absurd (true≢false e)
stays false o e h = h

if_some : {A : Type 0} (o : Option A) (P : A → Type 0) → ((x : A) → o ≡ Some x → P x) → IfSome o P
if_some None P f = tt
if_some (Some x) P f = f x refl

of_some : {A : Type 0} (o : Option A) (P : A → Type 0) (x : A) → o ≡ Some x → IfSome o P → P x
of_some {A = A} o P x is h = let at : IfSome (Some x) P = subst (λ (o : Option A). IfSome o P) is h in at

-- the parent of a path that a tree holds
pub parent_there : (t : TreeMap) (child path : Path) → IsTree t → IsPath child → parent_of child ≡ Some path → IsSome (get t (path_text child)) → IsSome (get t (path_text path))
parent_there t child path tree in_range is some = of_some (parent_of child) (λ r. IsSome (get t (path_text r))) path is (tree.parents child in_range some)

-- a tree stays one where a path without children goes
pub IsTree-remove : (t : TreeMap) (p : Path) → IsTree t → IsPath p → (HasChild t p → ⊥) → IsTree (remove t (path_text p))
IsTree-remove t p tree p_in_range childless =
    let new = remove t (path_text p) in
    let gets : (q : List ℕ) → get new q ≡ cond (eq_by_cmp text_cmp q (path_text p)) None (get t q) = λ q. get-remove nat_list_cmp_total t (path_text p) q in
    let before : (q : List ℕ) → IsSome (get new q) → IsSome (get t q) = λ q some. (still _ _ (subst (λ (o : Option (List ℕ)). IsSome o) (gets q) some)).1 in
    record {
      paths = λ k some. tree.paths k (before k some);
      parents = λ q in_range some. if_some (parent_of q) (λ r. IsSome (get new (path_text r))) (λ r is. parent_kept q r in_range is (before (path_text q) some));
      names = λ k. subst (λ (o : Option (List ℕ)). IfSome o (λ name. IsTrue (is_name name))) (sym (gets k)) (elim (eq_by_cmp text_cmp k (path_text p)) as (λ b. IfSome (cond b None (get t k)) (λ name. IsTrue (is_name name))) [ true ↦ tt | false ↦ tree.names k ]);
    }
  where
    parent_kept : (q r : Path) → IsPath q → parent_of q ≡ Some r → IsSome (get t (path_text q)) → IsSome (get (remove t (path_text p)) (path_text r))
    parent_kept q r in_range is some =
        let other : eq_by_cmp text_cmp (path_text r) (path_text p) ≡ false =
        elim (eq_by_cmp text_cmp (path_text r) (path_text p)) as (λ b. eq_by_cmp text_cmp (path_text r) (path_text p) ≡ b → b ≡ false) [
          | true ↦ λ e.
              let same : r ≡ p = same_path r p (parent_in_range q r is in_range) p_in_range (same_texts _ _ (is_equal _ e)) in
              absurd (childless (record { child = q; in_range = in_range; is_child = is ∙ ap (λ x. Some x) same; there = some }))
          | false ↦ λ e. refl
        ] refl in
        subst (λ (o : Option (List ℕ)). IsSome o) (sym (get-remove nat_list_cmp_total t (path_text p) (path_text r))) (stays _ _ other (parent_there t q r tree in_range is some))

pub copied_none : {A : Type 0} (o : Option (Bor A)) → is_some o ≡ false → is_some (option_copied o) ≡ false
copied_none None h = refl
copied_none (Some x) h = h
