-- A tree of names is a file to be imported.
use Rattle.std.proofs.Common.{◌≡◌, ℕ, ◌≤◌, Bool, true, false, cond, List, [], ◌∷◌, length, Option, Some, None, refl, sym, ap, subst, ◌∙◌}
use Rattle.std.specs.Prelude.{T, ◌&&◌, IsTrue, IsSome, IfSome, is_some}
use Rattle.std.specs.declared.cmp.Ordering.{Ordering}
use Rattle.std.specs.declared.cmp.Ordering.TheVariants.{Less, Equal, Greater}
use Rattle.std.specs.Ordering.{eq_by_cmp, is_eq, is_lt}
use Rattle.std.specs.FinMap.{get, entries, get-entries, entries_sorted}
use Rattle.std.specs.FinMap.Entries.{below_all, is_sorted}
use Rattle.std.proofs.lemmas.Map.Text.{is_eq-slice_cmp}
use Rattle.pid_file.specs.PathTexts.{IsPath, path_text, parent_of}
use Rattle.pid_file.specs.Trees.{IsTree, TreeMap, text_cmp}
use Rattle.pid_file.specs.Words.{is_name}
use Rattle.pid_file.specs.declared.path.Path.{Path}
use Rattle.pid_file.specs.declared.path.Path.TheVariants.{Vendor, Device, Subsystem, Class, Subclass, ProgIf, Generic}
use Rattle.pid_ident.specs.PathReading.{parent_text}
use Rattle.pid_moderation.specs.Items.{Items, name_at, holds_parent}
use Rattle.pid_moderation.specs.CheckTables.{most_items}
use Rattle.pid_moderation.specs.WellMade.{IsItem, AllItems, AreApart, IsFile}
use Rattle.pid_moderation.proofs.ItemLemmas.{tied}
use Rattle.pid_moderation.proofs.Knowing.{same_text}

below_first : (o : Ordering) (b : Bool) → T (is_lt o && b) → (is_eq o ≡ false) × T b
below_first Less b h = (refl, h)
below_first Equal b h = absurd h
below_first Greater b h = absurd h

none_below : (q : List ℕ) (es : Items) → T (below_all text_cmp q es) → name_at q es ≡ None
none_below q [] h = refl
none_below q (e ∷ es) h =
    let p = below_first (text_cmp q e.0) (below_all text_cmp q es) h in
    ap (λ b. cond b (Some e.1) (name_at q es)) p.0 ∙ none_below q es p.1

halves : (a b : Bool) → T (a && b) → T a × T b
halves true b h = (tt, h)
halves false b h = absurd h

later : (e : List ℕ × List ℕ) (k v : List ℕ) (es : Items) → T (below_all text_cmp e.0 es) → name_at k es ≡ Some v → cond (eq_by_cmp text_cmp k e.0) (Some e.1) (name_at k es) ≡ Some v
later e k v es below found = chosen (eq_by_cmp text_cmp k e.0) refl
  where
    chosen : (b : Bool) → eq_by_cmp text_cmp k e.0 ≡ b → cond b (Some e.1) (name_at k es) ≡ Some v
    chosen true t =
        let none : name_at k es ≡ None = subst (λ (q : List ℕ). name_at q es ≡ None) (sym (tied k e.0 t)) (none_below e.0 es below) in
        let bad : Some v ≡ None = sym found ∙ none in
        absurd cc
    chosen false t = found

all_found : (es : Items) → T (is_sorted text_cmp es) → ((k v : List ℕ) → name_at k es ≡ Some v → IsItem k v) → AllItems es
all_found [] sorted good = tt
all_found (e ∷ es) sorted good =
    let parts = halves (below_all text_cmp e.0 es) (is_sorted text_cmp es) sorted in
    (good e.0 e.1 (ap (λ b. cond b (Some e.1) (name_at e.0 es)) (is_eq-slice_cmp e.0 e.0 ∙ same_text e.0)), all_found es parts.1 (λ k v found. good k v (later e k v es parts.0 found)))

all_apart : (es : Items) → T (is_sorted text_cmp es) → AreApart es
all_apart [] sorted = tt
all_apart (e ∷ es) sorted =
    let parts = halves (below_all text_cmp e.0 es) (is_sorted text_cmp es) sorted in
    (none_below e.0 es parts.0, all_apart es parts.1)

named_by : (k : List ℕ) (o : Option (List ℕ)) (v : List ℕ) → IfSome o (λ name. IsTrue (is_name name)) → o ≡ Some v → is_name v ≡ true
named_by k None v named e = absurd cc
named_by k (Some x) v named e = let same : x ≡ v = cc in subst (λ (n : List ℕ). is_name n ≡ true) same named

item_of_tree : (t : TreeMap) → IsTree t → (k v : List ℕ) → name_at k (entries t) ≡ Some v → IsItem k v
item_of_tree t tree k v e =
    let found : get t k ≡ Some v = get-entries t k ∙ e in
    (tree.paths k (ap is_some found), named_by k (get t k) v (tree.names k) found)

parent_held : (t : TreeMap) → IsTree t → (p : Path) → IsPath p → is_some (name_at (path_text p) (entries t)) ≡ true → holds_parent (parent_text (path_text p)) (entries t) ≡ true
parent_held t tree p range there = by_path p (tree.parents p range (ap is_some (get-entries t (path_text p)) ∙ there))
  where
    by_path : (q : Path) → IfSome (parent_of q) (λ r. IsSome (get t (path_text r))) → holds_parent (parent_text (path_text q)) (entries t) ≡ true
    by_path (Vendor v) h = refl
    by_path (Device v d) h = sym (ap is_some (get-entries t (path_text (Vendor v)))) ∙ h
    by_path (Subsystem v d s e) h = sym (ap is_some (get-entries t (path_text (Device v d)))) ∙ h
    by_path (Class c) h = refl
    by_path (Subclass c s) h = sym (ap is_some (get-entries t (path_text (Class c)))) ∙ h
    by_path (ProgIf c s e) h = sym (ap is_some (get-entries t (path_text (Subclass c s)))) ∙ h
    by_path (Generic v d) h = sym (ap is_some (get-entries t (path_text (Vendor v)))) ∙ h

parents_held : (t : TreeMap) → IsTree t → (k : List ℕ) → is_some (name_at k (entries t)) ≡ true → holds_parent (parent_text k) (entries t) ≡ true
parents_held t tree k there =
    let at = tree.paths k (ap is_some (get-entries t k) ∙ there) in
    subst (λ (q : List ℕ). holds_parent (parent_text q) (entries t) ≡ true) (sym at.1.same) (parent_held t tree at.0 at.1.in_range (subst (λ (q : List ℕ). is_some (name_at q (entries t)) ≡ true) at.1.same there))

pub tree_file : (t : TreeMap) → IsTree t → length (entries t) ≤ most_items → IsFile (entries t)
tree_file t tree few = record {
  items = all_found (entries t) (entries_sorted t) (item_of_tree t tree);
  apart = all_apart (entries t) (entries_sorted t);
  tree = record { parents = parents_held t tree };
  limit = few;
}
