-- A pass over the items of a map, and the tree that they make.
use Rattle.std.proofs.Common.{◌≡◌, ℕ, Bool, true, false, cond, List, [], ◌∷◌, ◌++◌, map, Option, Some, None, refl, sym, ap, subst, ◌∙◌}
use mathlib.Core.List.{reverse_aux}
use mathlib.Core.Bool.{false≢true}
use mathlib.Core.Logic.{◌⊎◌, inl, inr, ⊎_elim}
use Rattle.std.specs.Prelude.{IsSomeAnd, IsSome, IfSome, IsTrue}
use Rattle.std.specs.Ordering.{is_eq, eq_by_cmp}
use Rattle.std.specs.Cmp.{on_total, eq_by_cmp_equiv}
use Rattle.std.specs.Map.{lookup, update_all}
use Rattle.std.specs.FinMap.{get, get-from_entries, same_map}
use Rattle.std.specs.FinMap.Entries.{find as value_at}
use Rattle.std.proofs.lemmas.Cmp.{nat_list_cmp_total, tied_itself}
use Rattle.std.proofs.lemmas.List.{append_assoc, append-nil}
use Rattle.pid_file.specs.declared.path.Path.{Path}
use Rattle.pid_file.specs.PathTexts.{IsPath, path_text, parent_of}
use Rattle.pid_file.specs.Steps.Paths.{path_cmp}
use Rattle.pid_file.specs.Words.{is_name}
use Rattle.pid_file.specs.Trees.{IsTree, text_cmp}
use Rattle.pid_file.specs.Items.{item_of, tree_of}
use Rattle.pid_file.specs.declared.whole.Above.{Above}
use Rattle.pid_file.specs.Steps.Whole.{HasItem, AreIn, IsSound, AreSound}
use Rattle.pid_file.proofs.Kin.{same_path}
use Rattle.pid_file.proofs.Maps.{same_texts, is_equal, get-tree, value-texts, if_some_weaker}

abbrev Items : Type 0
Items = List (Path × List ℕ)

abbrev value_in : Items → Path → Option (List ℕ)
value_in es q = lookup (λ k. is_eq (path_cmp q k)) es

-- a path that is equal to one of the list
pub same_item : (es : Items) (p q : Path) → is_eq (path_cmp p q) ≡ true → HasItem es q → HasItem es p
same_item es p q same there =
    let texts : path_text p ≡ path_text q = same_texts _ _ (is_equal _ same) in
    subst (λ (o : Option (List ℕ)). IsSome o) (get-tree es p) (subst (λ (l : List ℕ). IsSome (get (tree_of es) l)) (sym texts) (subst (λ (o : Option (List ℕ)). IsSome o) (sym (get-tree es q)) there))

kept_any : (b : Bool) (x : List ℕ) (o : Option (List ℕ)) → IsSome o → IsSome (cond b (Some x) o)
kept_any true x o h = refl
kept_any false x o h = h

-- an item of the list
pub item_there : (done left : Items) (e : Path × List ℕ) → HasItem (done ++ e ∷ left) e.0
item_there [] left e = rw (tied_itself (on_total path_text nat_list_cmp_total) e.0) refl
item_there (x ∷ xs) left e = kept_any (is_eq (path_cmp e.0 x.0)) x.1 (value_in (xs ++ e ∷ left) e.0) (item_there xs left e)

sound_push : (es done : Items) (e : Path × List ℕ) → AreSound es done → IsSound es e.0 e.1 → AreSound es (done ++ e ∷ [])
sound_push es [] e h s = (s, tt)
sound_push es (x ∷ xs) e h s = (h.0, sound_push es xs e h.1 s)

-- what a pass has found: what is left comes after sound items
pub record HasLooked (es left : Items) (a : Above) : Type 0 where
  pub done : Items
  pub parts : es ≡ done ++ left
  pub sound : AreSound es done
  pub kept : AreIn es a

pub looks : (es left : Items) (a : Above) → left ≡ es → a.head ≡ None → a.below ≡ None → HasLooked es left a
looks es left a all no_head no_below = record {
  done = [];
  parts = sym all;
  sound = tt;
  kept = record { head = rw no_head tt; below = rw no_below tt };
}

pub next_there : (es left more : Items) (a : Above) (e : Path × List ℕ) → HasLooked es left a → left ≡ e ∷ more → HasItem es e.0
next_there es left more a e h first = subst (λ (l : Items). HasItem l e.0) (sym (h.parts ∙ ap (λ (l : Items). h.done ++ l) first)) (item_there h.done more e)

pub looks_on : (es left more : Items) (a b : Above) (e : Path × List ℕ) → HasLooked es left a → left ≡ e ∷ more → IsSound es e.0 e.1 → AreIn es b → HasLooked es more b
looks_on es left more a b e h first sound kept = record {
  done = h.done ++ e ∷ [];
  parts = h.parts ∙ ap (λ (l : Items). h.done ++ l) first ∙ sym (append_assoc h.done (e ∷ []) more);
  sound = sound_push es h.done e h.sound sound;
  kept = kept;
}

pub looked : (es left : Items) (a : Above) → HasLooked es left a → left ≡ [] → AreSound es es
looked es left a h none = subst (AreSound es) (sym (h.parts ∙ ap (λ (l : Items). h.done ++ l) none ∙ append-nil h.done)) h.sound

-- what a text finds is an item's
pub record IsFound (P : Path → List ℕ → Type 0) (es : Items) (k : List ℕ) : Type 0 where
  pub path : Path
  pub name : List ℕ
  pub same : k ≡ path_text path
  pub value : value_at text_cmp k (map item_of es) ≡ Some name
  pub sound : P path name

found : (all es : Items) (k : List ℕ) → AreSound all es → IsSome (value_at text_cmp k (map item_of es)) → IsFound (IsSound all) es k
found all [] k h some = absurd (false≢true some)
found all (e ∷ es) k h some =
    elim (is_eq (text_cmp k (path_text e.0))) as (λ b. is_eq (text_cmp k (path_text e.0)) ≡ b → IsSome (cond b (Some e.1) (value_at text_cmp k (map item_of es))) → IsFound (IsSound all) (e ∷ es) k) [
      | true ↦ λ is _. record { path = e.0; name = e.1; same = same_texts _ _ (is_equal _ is); value = rw is refl; sound = h.0 }
      | false ↦ λ is some.
          let f = found all es k h.1 some in
          record { path = f.path; name = f.name; same = f.same; value = rw is f.value; sound = f.sound }
    ] refl some

pub sound_tree : (es : Items) → AreSound es es → IsTree (tree_of es)
sound_tree es h =
    let gets : (k : List ℕ) → get (tree_of es) k ≡ value_at text_cmp k (map item_of es) = λ k. get-from_entries nat_list_cmp_total (map item_of es) k in
    let at : (k : List ℕ) → IsSome (get (tree_of es) k) → IsFound (IsSound es) es k = λ k some. found es es k h (subst (λ (o : Option (List ℕ)). IsSome o) (gets k) some) in
    record {
      paths = λ k some. let f = at k some in (f.path, record { in_range = f.sound.in_range; same = f.same });
      parents = λ p in_range some.
          let f = at (path_text p) some in
          let same : f.path ≡ p = sym (same_path p f.path in_range f.sound.in_range f.same) in
          if_some_weaker (parent_of p) (HasItem es) (λ q. IsSome (get (tree_of es) (path_text q))) (λ q there. subst (λ (o : Option (List ℕ)). IsSome o) (sym (get-tree es q)) there)
          (subst (λ (x : Path). IfSome (parent_of x) (HasItem es)) same f.sound.parent);
      names = λ k. elim (get (tree_of es) k) as (λ o. get (tree_of es) k ≡ o → IfSome o (λ name. IsTrue (is_name name))) [
        | None ↦ λ _. tt
        | Some n ↦ λ e.
            let f = at k (subst (λ (o : Option (List ℕ)). IsSome o) (sym e) refl) in
            let same : Some f.name ≡ Some n = sym f.value ∙ sym (gets k) ∙ e in
            subst (λ (o : Option (List ℕ)). IfSome o (λ name. IsTrue (is_name name))) same f.sound.named
      ] refl;
    }

path_symm : (p q : Path) → is_eq (path_cmp p q) ≡ is_eq (path_cmp q p)
path_symm p q = (eq_by_cmp_equiv (on_total path_text nat_list_cmp_total)).symm p q

at_path : (es : Items) (k : List ℕ) → ((p : Path) × (k ≡ path_text p)) ⊎ (value_at text_cmp k (map item_of es) ≡ None)
at_path [] k = inr refl
at_path (e ∷ es) k =
    elim (is_eq (text_cmp k (path_text e.0))) as (λ b. is_eq (text_cmp k (path_text e.0)) ≡ b → ((p : Path) × (k ≡ path_text p)) ⊎ (cond b (Some e.1) (value_at text_cmp k (map item_of es)) ≡ None)) [
      | true ↦ λ is. inl (e.0, same_texts _ _ (is_equal _ is))
      | false ↦ λ _. at_path es k
    ] refl

-- lists that have the same at each path make one tree
pub same_trees : (es xs : Items) → ((q : Path) → value_in es q ≡ value_in xs q) → tree_of es ≡ tree_of xs
same_trees es xs h = same_map nat_list_cmp_total same_texts _ _ (λ k.
    let at_text : (p : Path) → k ≡ path_text p → value_at text_cmp k (map item_of es) ≡ value_at text_cmp k (map item_of xs) =
    λ p same. subst (λ (l : List ℕ). value_at text_cmp l (map item_of es) ≡ value_at text_cmp l (map item_of xs)) (sym same) (value-texts es p ∙ h p ∙ sym (value-texts xs p)) in
    get-from_entries nat_list_cmp_total (map item_of es) k
    ∙ ⊎_elim (λ (a : (p : Path) × (k ≡ path_text p)). at_text a.0 a.1) (λ (none : value_at text_cmp k (map item_of es) ≡ None). ⊎_elim (λ (b : (p : Path) × (k ≡ path_text p)). at_text b.0 b.1) (λ (too : value_at text_cmp k (map item_of xs) ≡ None). none ∙ sym too) (at_path xs k)) (at_path es k)
    ∙ sym (get-from_entries nat_list_cmp_total (map item_of xs) k))

-- items that are set in turn
pub turned : (xs done : Items) (q : Path) → update_all (eq_by_cmp path_cmp) (value_in done) xs q ≡ value_in (reverse_aux xs done) q
turned [] done q = refl
turned (x ∷ xs) done q =
    let step : (p : Path) → cond (is_eq (path_cmp x.0 p)) (Some x.1) (value_in done p) ≡ cond (is_eq (path_cmp p x.0)) (Some x.1) (value_in done p) = λ p. ap (λ b. cond b (Some x.1) (value_in done p)) (path_symm x.0 p) in
    ap (λ (g : Path → Option (List ℕ)). update_all (eq_by_cmp path_cmp) g xs q) (λ i p. step p i) ∙ turned xs (x ∷ done) q

lacks : (es : Items) (o : Option Path) → IsSomeAnd o (λ q. HasItem es q → ⊥) → IfSome o (λ q. IsSome (get (tree_of es) (path_text q))) → ⊥
lacks es None absent there = absent
lacks es (Some q) absent there = absent (subst (λ (o : Option (List ℕ)). IsSome o) (get-tree es q) there)

-- an item whose parent is not among the items
pub not_a_tree : (es left more : Items) (a : Above) (e : Path × List ℕ) → HasLooked es left a → left ≡ e ∷ more → IsPath e.0 → IsSomeAnd (parent_of e.0) (λ q. HasItem es q → ⊥) → IsTree (tree_of es) → ⊥
not_a_tree es left more a e h first in_range absent tree =
    lacks es (parent_of e.0) absent (tree.parents e.0 in_range (subst (λ (o : Option (List ℕ)). IsSome o) (sym (get-tree es e.0)) (next_there es left more a e h first)))
