-- Items keep the parents of their paths.
use Rattle.std.proofs.Common.{◌≡◌, ℕ, Bool, true, false, cond, not, ◌||◌, List, [], ◌∷◌, Option, Some, None, refl, sym, ap, subst, ◌⊎◌, inl, inr}
use Rattle.std.specs.Prelude.{is_some}
use Rattle.std.specs.declared.cmp.Ordering.{Ordering}
use Rattle.std.specs.declared.cmp.Ordering.TheVariants.{Less, Equal, Greater}
use Rattle.std.specs.Ordering.{eq_by_cmp, is_eq}
use Rattle.std.specs.Cmp.Lexicographic.{nat_list_cmp_total}
use Rattle.std.specs.FinMap.{nat_cmp-IsAntisymmetric, slice_cmp-IsAntisymmetric}
use Rattle.std.specs.FinMap.Entries.{put, where_key, find-put, find-where_key}
use Rattle.std.proofs.lemmas.Map.Text.{is_eq-slice_cmp}
use Rattle.pid_file.specs.Trees.{text_cmp}
use Rattle.pid_ident.specs.PathReading.{parent_text}
use Rattle.pid_moderation.specs.Items.{Items, name_at, imported, holds_parent, is_parent, has_children}
use Rattle.pid_moderation.specs.WellMade.{HoldsParents}

equal_order : (o : Ordering) → is_eq o ≡ true → o ≡ Equal
equal_order Less h = absurd cc
equal_order Equal h = refl
equal_order Greater h = absurd cc

-- texts that tie are one
pub tied : (q k : List ℕ) → eq_by_cmp text_cmp q k ≡ true → q ≡ k
tied q k h = slice_cmp-IsAntisymmetric nat_cmp-IsAntisymmetric q k (equal_order (text_cmp q k) h)

pub put_some : (q k v : List ℕ) (items : Items) → is_some (name_at q items) ≡ true → is_some (name_at q (put text_cmp k v items)) ≡ true
put_some q k v items h = rw (find-put text_cmp nat_list_cmp_total q k v items) (chosen (eq_by_cmp text_cmp q k))
  where
    chosen : (b : Bool) → is_some (cond b (Some v) (name_at q items)) ≡ true
    chosen true = refl
    chosen false = h

put_parent : (o : Option (List ℕ)) (k v : List ℕ) (items : Items) → holds_parent o items ≡ true → holds_parent o (put text_cmp k v items) ≡ true
put_parent None k v items h = refl
put_parent (Some p) k v items h = put_some p k v items h

pub put_keeps : (k v : List ℕ) (items : Items) → HoldsParents items → holds_parent (parent_text k) items ≡ true → HoldsParents (put text_cmp k v items)
put_keeps k v items sound parent = record { parents = λ q h. put_parent (parent_text q) k v items (before q (eq_by_cmp text_cmp q k) refl (rw (find-put text_cmp nat_list_cmp_total q k v items) at h)) }
  where
    before : (q : List ℕ) (b : Bool) → eq_by_cmp text_cmp q k ≡ b → is_some (cond b (Some v) (name_at q items)) ≡ true → holds_parent (parent_text q) items ≡ true
    before q true e h = subst (λ (p : List ℕ). holds_parent (parent_text p) items ≡ true) (sym (tied q k e)) parent
    before q false e h = sound.parents q h

-- without the item of a path
abbrev pub without : List ℕ → Items → Items
without path items = where_key text_cmp (λ k. not (eq_by_cmp text_cmp path k)) items

pub name_without : (path q : List ℕ) (items : Items) → name_at q (without path items) ≡ cond (not (eq_by_cmp text_cmp path q)) (name_at q items) None
name_without path q items = find-where_key text_cmp (λ k. not (eq_by_cmp text_cmp path k)) q (λ x e. ap (λ (y : List ℕ). not (eq_by_cmp text_cmp path y)) (sym (slice_cmp-IsAntisymmetric nat_cmp-IsAntisymmetric q x e))) items

neither : (a b : Bool) → (a || b) ≡ false → (a ≡ false) × (b ≡ false)
neither true b h = absurd cc
neither false b h = (refl, h)

no_child : (path q : List ℕ) (items : Items) → has_children path items ≡ false → is_some (name_at q items) ≡ true → is_parent path (parent_text q) ≡ false
no_child path q [] none h = absurd cc
no_child path q (e ∷ items) none h =
    let parts = neither (is_parent path (parent_text e.0)) (has_children path items) none in
    here (eq_by_cmp text_cmp q e.0) refl parts.0 (no_child path q items parts.1) h
  where
    here : (b : Bool) → eq_by_cmp text_cmp q e.0 ≡ b → is_parent path (parent_text e.0) ≡ false → (is_some (name_at q items) ≡ true → is_parent path (parent_text q) ≡ false) → is_some (cond b (Some e.1) (name_at q items)) ≡ true → is_parent path (parent_text q) ≡ false
    here true t first rest h = subst (λ (p : List ℕ). is_parent path (parent_text p) ≡ false) (sym (tied q e.0 t)) first
    here false t first rest h = rest h

was_there : (b : Bool) (o : Option (List ℕ)) → is_some (cond b o None) ≡ true → is_some o ≡ true
was_there true o h = h
was_there false o h = absurd cc

parent_stays : (path : List ℕ) (o : Option (List ℕ)) (items : Items) → holds_parent o items ≡ true → is_parent path o ≡ false → holds_parent o (without path items) ≡ true
parent_stays path None items h other = refl
parent_stays path (Some p) items h other = rw (name_without path p items, is_eq-slice_cmp path p, other) h

pub without_keeps : (path : List ℕ) (items : Items) → HoldsParents items → has_children path items ≡ false → HoldsParents (without path items)
without_keeps path items sound none = record {
  parents = λ q h.
      let there : is_some (name_at q items) ≡ true = was_there _ (name_at q items) (rw (name_without path q items) at h) in
      parent_stays path (parent_text q) items (sound.parents q there) (no_child path q items none there);
}

old_stays : (q : List ℕ) (pairs items : Items) → is_some (name_at q items) ≡ true → is_some (name_at q (imported pairs items)) ≡ true
old_stays q [] items h = h
old_stays q (pair ∷ pairs) items h = put_some q pair.0 pair.1 (imported pairs items) (old_stays q pairs items h)

new_comes : (q : List ℕ) (pairs items : Items) → is_some (name_at q pairs) ≡ true → is_some (name_at q (imported pairs items)) ≡ true
new_comes q [] items h = absurd cc
new_comes q (pair ∷ pairs) items h = rw (find-put text_cmp nat_list_cmp_total q pair.0 pair.1 (imported pairs items)) (here (eq_by_cmp text_cmp q pair.0) (new_comes q pairs items) h)
  where
    here : (b : Bool) → (is_some (name_at q pairs) ≡ true → is_some (name_at q (imported pairs items)) ≡ true) → is_some (cond b (Some pair.1) (name_at q pairs)) ≡ true → is_some (cond b (Some pair.1) (name_at q (imported pairs items))) ≡ true
    here true rest h = refl
    here false rest h = rest h

either : (q : List ℕ) (pairs items : Items) → is_some (name_at q (imported pairs items)) ≡ true → (is_some (name_at q pairs) ≡ true) ⊎ (is_some (name_at q items) ≡ true)
either q [] items h = inr h
either q (pair ∷ pairs) items h = here (eq_by_cmp text_cmp q pair.0) (either q pairs items) (rw (find-put text_cmp nat_list_cmp_total q pair.0 pair.1 (imported pairs items)) at h)
  where
    here : (b : Bool) → (is_some (name_at q (imported pairs items)) ≡ true → (is_some (name_at q pairs) ≡ true) ⊎ (is_some (name_at q items) ≡ true)) → is_some (cond b (Some pair.1) (name_at q (imported pairs items))) ≡ true → (is_some (cond b (Some pair.1) (name_at q pairs)) ≡ true) ⊎ (is_some (name_at q items) ≡ true)
    here true rest h = inl refl
    here false rest h = rest h

parent_old : (o : Option (List ℕ)) (pairs items : Items) → holds_parent o items ≡ true → holds_parent o (imported pairs items) ≡ true
parent_old None pairs items h = refl
parent_old (Some p) pairs items h = old_stays p pairs items h

parent_new : (o : Option (List ℕ)) (pairs items : Items) → holds_parent o pairs ≡ true → holds_parent o (imported pairs items) ≡ true
parent_new None pairs items h = refl
parent_new (Some p) pairs items h = new_comes p pairs items h

pub imported_keeps : (pairs items : Items) → HoldsParents pairs → HoldsParents items → HoldsParents (imported pairs items)
imported_keeps pairs items new old = record { parents = λ q h. elim (either q pairs items h) [ inl a ↦ parent_new (parent_text q) pairs items (new.parents q a) | inr b ↦ parent_old (parent_text q) pairs items (old.parents q b) ] }
