-- Pairs that are put in turn come to what they are written at once, where no path stands twice among them.
use Rattle.std.proofs.Common.{◌≡◌, ◌⊎◌, inl, inr, ℕ, Bool, true, false, cond, not, List, [], ◌∷◌, Option, None, Some, refl, sym, ap, subst, ◌∙◌}
use Rattle.std.proofs.lemmas.Cmp.{nat_list_cmp_total}
use Rattle.std.proofs.lemmas.Slice.Eq.{bytes_eq-Decides}
use Rattle.std.specs.Ordering.{eq_by_cmp}
use Rattle.std.specs.FinMap.Entries.{put, find-put}
use Rattle.pid_ident.specs.Trees.{text_cmp}
use Rattle.pid_moderation.specs.Changes.{with_items, renumbered}
use Rattle.pid_moderation.specs.Items.{Items, name_at, imported}
use Rattle.pid_moderation.specs.Views.{Views, is_named_anew}
use Rattle.pid_moderation.specs.WellMade.{AreApart}
use Rattle.pid_tables.specs.Rows.Steps.Writes.{with_name}
use Rattle.pid_tables.specs.Steps.Putting.{put_in_turn}
use Rattle.pid_tables.proofs.Counting.{name_kept}
use Rattle.pid_tables.proofs.FileEntries.{tied}

pub items_in_turn : (n : ℕ) (pairs : Items) (v : Views) → (put_in_turn n pairs v).items ≡ imported pairs v.items
items_in_turn n [] v = refl
items_in_turn n (pair ∷ pairs) v = ap (put text_cmp pair.0 pair.1) (items_in_turn n pairs v)

not_anew : (o : Option (List ℕ)) → is_named_anew o o ≡ false
not_anew None = refl
not_anew (Some name) = ap not ((bytes_eq-Decides name name).1 refl)

-- a name that was left by the first step, or is left by the second, has the number of both
two_steps : (n s : ℕ) (first between last : Option (List ℕ)) → (between ≡ first) ⊎ (last ≡ between) → cond (is_named_anew between last) n (cond (is_named_anew first between) n s) ≡ cond (is_named_anew first last) n s
two_steps n s first between last (inl same) =
    ap (λ (o : Option (List ℕ)). cond (is_named_anew o last) n (cond (is_named_anew first o) n s)) same
    ∙ ap (λ (b : Bool). cond (is_named_anew first last) n (cond b n s)) (not_anew first)
two_steps n s first between last (inr same) =
    ap (λ (o : Option (List ℕ)). cond (is_named_anew between o) n (cond (is_named_anew first between) n s)) same
    ∙ ap (λ (b : Bool). cond b n (cond (is_named_anew first between) n s)) (not_anew between)
    ∙ ap (λ (o : Option (List ℕ)). cond (is_named_anew first o) n s) (sym same)

-- of a path that is put next, or of another one
one_or_other : (pair : List ℕ × List ℕ) (pairs items : Items) (q : List ℕ) → name_at pair.0 pairs ≡ None
    → (name_at q (imported pairs items) ≡ name_at q items) ⊎ (name_at q (put text_cmp pair.0 pair.1 (imported pairs items)) ≡ name_at q (imported pairs items))
one_or_other pair pairs items q apart = by_path (eq_by_cmp text_cmp q pair.0) refl
  where
    by_path : (b : Bool) → eq_by_cmp text_cmp q pair.0 ≡ b
        → (name_at q (imported pairs items) ≡ name_at q items) ⊎ (name_at q (put text_cmp pair.0 pair.1 (imported pairs items)) ≡ name_at q (imported pairs items))
    by_path true e = inl (name_kept q pairs items (subst (λ (p : List ℕ). name_at p pairs ≡ None) (sym (tied q pair.0 e)) apart))
    by_path false e =
        inr (find-put text_cmp nat_list_cmp_total q pair.0 pair.1 (imported pairs items) ∙ ap (λ (b : Bool). cond b (Some pair.1) (name_at q (imported pairs items))) e)

pub in_turn : (n : ℕ) (pairs : Items) (v : Views) → AreApart pairs → put_in_turn n pairs v ≡ with_items n (imported pairs v.items) v
in_turn n [] v apart = λ i. record v { since = λ q. nothing_new q i }
  where
    nothing_new : (q : List ℕ) → v.since q ≡ renumbered n v.items v.items v.since q
    nothing_new q = sym (ap (λ (b : Bool). cond b n (v.since q)) (not_anew (name_at q v.items)))
in_turn n (pair ∷ pairs) v apart = ap (with_name n pair.0 pair.1) (in_turn n pairs v apart.1) ∙ (λ i. record v { items = imported (pair ∷ pairs) v.items; since = λ q. numbers q i })
  where
    numbers : (q : List ℕ) → renumbered n (imported pairs v.items) (imported (pair ∷ pairs) v.items) (renumbered n v.items (imported pairs v.items) v.since) q ≡ renumbered n v.items (imported (pair ∷ pairs) v.items) v.since q
    numbers q =
        two_steps n (v.since q) (name_at q v.items) (name_at q (imported pairs v.items)) (name_at q (imported (pair ∷ pairs) v.items)) (one_or_other pair pairs v.items q apart.0)
