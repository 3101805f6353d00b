-- What changes leave of the numbers of paths.
use Rattle.std.proofs.Common.{◌≡◌, ℕ, Bool, true, false, cond, List, None, Option, refl, sym, ap, ◌∙◌}
use Rattle.std.specs.Prelude.{not}
use Rattle.std.specs.Ordering.{eq_by_cmp}
use Rattle.std.specs.FinMap.{nat_cmp-IsAntisymmetric, slice_cmp-IsAntisymmetric}
use Rattle.std.specs.FinMap.Entries.{find-where_key}
use Rattle.pid_ident.specs.Trees.{text_cmp}
use Rattle.pid_moderation.specs.declared.change.Edit.TheVariants.{Remove}
use Rattle.pid_moderation.specs.declared.change.Effect.TheVariants.{Decided}
use Rattle.pid_moderation.specs.declared.facts.State.{State}
use Rattle.pid_moderation.specs.Changes.{edited, renumbered, with_items, affected}
use Rattle.pid_moderation.specs.Items.{name_at}
use Rattle.pid_moderation.specs.Views.{Views, is_named_anew}
use Rattle.pid_moderation.proofs.Changing.{not_anew}
use Rattle.pid_tables.specs.Rows.Steps.Writes.{with_state, without_item}

-- a path that keeps its name keeps its number
same_number : (n since : ℕ) (o : Option (List ℕ)) → cond (is_named_anew o o) n since ≡ since
same_number n since o = ap (λ b. cond b n since) (not_anew o)

pub same_items : (n : ℕ) (v : Views) → with_items n v.items v ≡ v
same_items n v = λ i. record v { since = λ q. same_number n (v.since q) (name_at q v.items) i }

-- a decision that writes no item
pub undecided : (n number : ℕ) (state : State) (v : Views) → affected n (Decided number state None) v ≡ with_state number state v
undecided n number state v = λ i. record (with_state number state v) { since = λ q. same_number n (v.since q) (name_at q v.items) i }

-- a path whose item is taken away is not named anew
gone : (b : Bool) (o : Option (List ℕ)) → is_named_anew o (cond b o None) ≡ false
gone true o = not_anew o
gone false o = refl

pub removed : (n : ℕ) (path : List ℕ) (v : Views) → with_items n (edited path Remove v.items) v ≡ without_item path v
removed n path v = λ i. record (without_item path v) { since = λ q. still q i }
  where
    found : (q : List ℕ) → name_at q (edited path Remove v.items) ≡ cond (not (eq_by_cmp text_cmp path q)) (name_at q v.items) None
    found q = find-where_key text_cmp (λ k. not (eq_by_cmp text_cmp path k)) q (λ x e. ap (λ (y : List ℕ). not (eq_by_cmp text_cmp path y)) (sym (slice_cmp-IsAntisymmetric nat_cmp-IsAntisymmetric q x e))) v.items

    still : (q : List ℕ) → renumbered n v.items (edited path Remove v.items) v.since q ≡ v.since q
    still q = ap (λ now. cond (is_named_anew (name_at q v.items) now) n (v.since q)) (found q) ∙ ap (λ b. cond b n (v.since q)) (gone (not (eq_by_cmp text_cmp path q)) (name_at q v.items))
