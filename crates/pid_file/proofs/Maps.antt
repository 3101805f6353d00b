-- A map of paths as a map of their texts.
use Rattle.std.proofs.Common.{◌≡◌, ℕ, Bool, true, false, cond, ◌&&◌, List, [], ◌∷◌, map, Option, Some, None, refl, sym, ap, subst, ◌∙◌}
use mathlib.Core.Bool.{false≢true}
use Rattle.std.specs.Prelude.{T, IfSome}
use Rattle.std.specs.declared.cmp.Ordering.{Ordering}
use Rattle.std.specs.declared.cmp.Ordering.TheVariants.{Less, Equal, Greater}
use Rattle.std.specs.Ordering.{is_eq, is_lt, eq_by_cmp, match_ordering}
use Rattle.std.specs.Map.{lookup}
use Rattle.std.specs.BTreeMap.{insert_entry}
use Rattle.std.specs.List.{AllByRecursion}
use Rattle.std.specs.List.Sorted.{IsStrictlySortedBy}
use Rattle.std.proofs.lemmas.Cmp.{nat_list_cmp_total}
use Rattle.std.specs.FinMap.{get, insert, entries, from_sorted, get-from_entries, get-from_sorted, get-insert, entries-from_sorted, same_map, slice_cmp-IsAntisymmetric, nat_cmp-IsAntisymmetric}
use Rattle.std.specs.FinMap.Entries.{find as value_at, is_sorted, below_all, put, by_order, find-put}
use Rattle.pid_file.specs.declared.path.Path.{Path}
use Rattle.pid_file.specs.PathTexts.{path_text}
use Rattle.pid_file.specs.Steps.Paths.{path_cmp}
use Rattle.pid_file.specs.Trees.{text_cmp}
use Rattle.pid_file.specs.Items.{item_of, tree_of}

pub same_texts : (a b : List ℕ) → text_cmp a b ≡ Equal → a ≡ b
same_texts = slice_cmp-IsAntisymmetric nat_cmp-IsAntisymmetric

pub value-texts : (es : List (Path × List ℕ)) (q : Path) → value_at text_cmp (path_text q) (map item_of es) ≡ lookup (λ k. is_eq (path_cmp q k)) es
value-texts [] q = refl
value-texts (e ∷ es) q = ap (cond (is_eq (path_cmp q e.0)) (Some e.1)) (value-texts es q)

-- what the tree has at a path
pub get-tree : (es : List (Path × List ℕ)) (q : Path) → get (tree_of es) (path_text q) ≡ lookup (λ k. is_eq (path_cmp q k)) es
get-tree es q = get-from_entries nat_list_cmp_total (map item_of es) (path_text q) ∙ value-texts es q

put-texts : (es : List (Path × List ℕ)) (p : Path) (n : List ℕ) → map item_of (insert_entry path_cmp es p n) ≡ put text_cmp (path_text p) n (map item_of es)
put-texts [] p n = refl
put-texts (e ∷ es) p n =
    elim (path_cmp p e.0) as (λ o. map item_of (match_ordering o ((p, n) ∷ e ∷ es) ((e.0, n) ∷ es) (e ∷ insert_entry path_cmp es p n)) ≡ by_order o ((path_text p, n) ∷ item_of e ∷ map item_of es) ((path_text e.0, n) ∷ map item_of es) (item_of e ∷ put text_cmp (path_text p) n (map item_of es))) [
      | Less ↦ refl
      | Equal ↦ refl
      | Greater ↦ ap (λ rest. item_of e ∷ rest) (put-texts es p n)
    ]

pub tree-insert : (es : List (Path × List ℕ)) (p : Path) (n : List ℕ) → tree_of (insert_entry path_cmp es p n) ≡ insert (tree_of es) (path_text p) n
tree-insert es p n = same_map nat_list_cmp_total same_texts _ _ (λ q.
    get-from_entries nat_list_cmp_total _ q ∙ ap (value_at text_cmp q) (put-texts es p n) ∙ find-put text_cmp nat_list_cmp_total q (path_text p) n (map item_of es)
    ∙ sym (get-insert nat_list_cmp_total (tree_of es) (path_text p) n q ∙ ap (cond (eq_by_cmp text_cmp q (path_text p)) (Some n)) (get-from_entries nat_list_cmp_total (map item_of es) q)))

both : (a b : Bool) → T a → T b → T (a && b)
both true b p q = q
both false b p q = p

below-texts : (k : Path) (es : List (Path × List ℕ)) → AllByRecursion (λ y. path_cmp k y ≡ Less) (map (λ e. e.0) es) → T (below_all text_cmp (path_text k) (map item_of es))
below-texts k [] h = tt
below-texts k (e ∷ es) h = both _ _ (subst (λ r. T (is_lt r)) (sym h.0) tt) (below-texts k es h.1)

sorted-texts : (es : List (Path × List ℕ)) → IsStrictlySortedBy path_cmp (map (λ e. e.0) es) → T (is_sorted text_cmp (map item_of es))
unfolding IsStrictlySortedBy
sorted-texts [] h = tt
sorted-texts (e ∷ es) h = both _ _ (below-texts e.0 es h.0) (sorted-texts es h.1)

-- the entries in order are the items
pub entries-tree : (es : List (Path × List ℕ)) → IsStrictlySortedBy path_cmp (map (λ e. e.0) es) → entries (tree_of es) ≡ map item_of es
entries-tree es h =
    let s = sorted-texts es h in
    ap entries (same_map nat_list_cmp_total same_texts (tree_of es) (from_sorted (map item_of es)) (λ q. get-from_entries nat_list_cmp_total (map item_of es) q ∙ sym (get-from_sorted text_cmp (map item_of es) q s)))
    ∙ entries-from_sorted text_cmp (map item_of es) s

pub is_equal : (o : Ordering) → is_eq o ≡ true → o ≡ Equal
is_equal Less h = absurd (false≢true h)
is_equal Equal h = refl
is_equal Greater h = absurd (false≢true h)

pub if_some_weaker : {A : Type 0} (o : Option A) (P Q : A → Type 0) → ((x : A) → P x → Q x) → IfSome o P → IfSome o Q
if_some_weaker None P Q f h = tt
if_some_weaker (Some x) P Q f h = f x h
