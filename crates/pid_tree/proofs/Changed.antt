-- A tree in which a path gets a name; the empty tree and the number of its items.
use Rattle.std.proofs.Common.{◌≡◌, ℕ, suc, Bool, true, false, cond, List, [], ◌∷◌, length, map, Option, Some, None, refl, sym, ap, subst, ◌∙◌, arith}
use mathlib.Core.Bool.{false≢true}
use Rattle.std.specs.Prelude.{IsSome, IsNone, IsSomeAnd, IfSome, IsTrue, is_some}
use Rattle.std.specs.Ordering.{is_eq, eq_by_cmp}
use Rattle.std.specs.Map.{lookup}
use Rattle.std.specs.List.Sorted.{IsStrictlySortedBy}
use Rattle.std.proofs.lemmas.Cmp.{nat_list_cmp_total, tied_itself}
use Rattle.std.specs.FinMap.{get, insert, entries, empty, len, get-from_entries, get-insert, get-empty, len-entries, same_map}
use Rattle.pid_file.specs.declared.path.Path.{Path}
use Rattle.pid_file.specs.PathTexts.{IsPath, IsTextOf, path_text, parent_of}
use Rattle.pid_file.specs.Steps.Paths.{path_cmp}
use Rattle.pid_file.specs.Words.{is_name}
use Rattle.pid_file.specs.Trees.{TreeMap, IsTree, text_cmp}
use Rattle.pid_file.specs.Items.{item_of, tree_of}
use Rattle.pid_tree.specs.Parents.{LacksParent}
use Rattle.pid_file.proofs.Kin.{same_path}
use Rattle.pid_file.proofs.Maps.{same_texts, is_equal, if_some_weaker, entries-tree, get-tree}

-- the empty map is a tree
pub IsTree-empty : IsTree empty
IsTree-empty = record {
  paths = λ k some. absurd (false≢true (sym (ap is_some (get-empty text_cmp k)) ∙ some));
  parents = λ p _ some. absurd (false≢true (sym (ap is_some (get-empty text_cmp (path_text p))) ∙ some));
  names = λ k. rw (get-empty text_cmp k) tt;
}

some_or_none : (o : Option (List ℕ)) → (IsNone o → ⊥) → IsSome o
some_or_none None h = absurd (h refl)
some_or_none (Some x) h = refl

there : (t : TreeMap) (o : Option Path) → (IsSomeAnd o (λ r. IsNone (get t (path_text r))) → ⊥) → IfSome o (λ r. IsSome (get t (path_text r)))
there t None h = tt
there t (Some r) h = some_or_none (get t (path_text r)) h

kept : (b : Bool) (n : List ℕ) (o : Option (List ℕ)) → IsSome o → IsSome (cond b (Some n) o)
kept true n o h = refl
kept false n o h = h

-- a tree stays one where a path with its parent gets a name
pub IsTree-insert : (t : TreeMap) (p : Path) (n : List ℕ) → IsTree t → IsPath p → (LacksParent t p → ⊥) → is_name n ≡ true → IsTree (insert t (path_text p) n)
IsTree-insert t p n tree in_range parent named =
    let new = insert t (path_text p) n in
    let gets : (q : List ℕ) → get new q ≡ cond (eq_by_cmp text_cmp q (path_text p)) (Some n) (get t q) = λ q. get-insert nat_list_cmp_total t (path_text p) n q in
    record {
      paths = λ k some.
          elim (eq_by_cmp text_cmp k (path_text p)) as (λ b. eq_by_cmp text_cmp k (path_text p) ≡ b → IsSome (cond b (Some n) (get t k)) → (x : Path) × IsTextOf k x) [
            | true ↦ λ e _. (p, record { in_range = in_range; same = same_texts _ _ (is_equal _ e) })
            | false ↦ λ e s. tree.paths k s
          ] refl (subst (λ (o : Option (List ℕ)). IsSome o) (gets k) some);
      parents = λ q q_in_range some.
          let before : IfSome (parent_of q) (λ r. IsSome (get t (path_text r))) =
          elim (eq_by_cmp text_cmp (path_text q) (path_text p)) as (λ b. eq_by_cmp text_cmp (path_text q) (path_text p) ≡ b → IsSome (cond b (Some n) (get t (path_text q))) → IfSome (parent_of q) (λ r. IsSome (get t (path_text r)))) [
            | true ↦ λ e _. subst (λ (x : Path). IfSome (parent_of x) (λ r. IsSome (get t (path_text r)))) (sym (same_path q p q_in_range in_range (same_texts _ _ (is_equal _ e)))) (there t (parent_of p) parent)
            | false ↦ λ e s. tree.parents q q_in_range s
          ] refl (subst (λ (o : Option (List ℕ)). IsSome o) (gets (path_text q)) some) in
          if_some_weaker (parent_of q) (λ r. IsSome (get t (path_text r))) (λ r. IsSome (get new (path_text r))) (λ r s. subst (λ (o : Option (List ℕ)). IsSome o) (sym (gets (path_text r))) (kept (eq_by_cmp text_cmp (path_text r) (path_text p)) n (get t (path_text r)) s)) before;
      names = λ k. subst (λ (o : Option (List ℕ)). IfSome o (λ name. IsTrue (is_name name))) (sym (gets k)) (elim (eq_by_cmp text_cmp k (path_text p)) as (λ b. IfSome (cond b (Some n) (get t k)) (λ name. IsTrue (is_name name))) [ true ↦ named | false ↦ tree.names k ]);
    }

length-texts : (es : List (Path × List ℕ)) → length (map item_of es) ≡ length es
length-texts [] = refl
length-texts (e ∷ es) = ap suc (length-texts es)

pub len-tree : (es : List (Path × List ℕ)) → IsStrictlySortedBy path_cmp (map (λ e. e.0) es) → length es ≡ len (tree_of es)
len-tree es h = sym (len-entries (tree_of es) ∙ ap length (entries-tree es h) ∙ length-texts es)

-- a tree is the empty one where it has no items
pub empty-tree : (es : List (Path × List ℕ)) (t : TreeMap) → tree_of es ≡ t → (length es ≡ 0 → t ≡ empty) × (t ≡ empty → length es ≡ 0)
empty-tree [] t view = (λ _. sym view ∙ same_map nat_list_cmp_total same_texts _ _ (λ q. get-from_entries nat_list_cmp_total [] q ∙ sym (get-empty text_cmp q)), λ _. refl)
empty-tree (e ∷ es) t view = (
  λ none. absurd (omega arith),
  λ is.
      let some : get (tree_of (e ∷ es)) (path_text e.0) ≡ Some e.1 = get-tree (e ∷ es) e.0 ∙ ap (λ b. cond b (Some e.1) (lookup (λ k. is_eq (path_cmp e.0 k)) es)) (ap is_eq (tied_itself nat_list_cmp_total (path_text e.0))) in
      let none : get (tree_of (e ∷ es)) (path_text e.0) ≡ None = ap (λ (m : TreeMap). get m (path_text e.0)) (view ∙ is) ∙ get-empty text_cmp (path_text e.0) in
      cc,
)
