-- The vendors and the classes, after each change.
use Rattle.std.proofs.Common.{◌≡◌, ℕ, Bool, true, false, cond, List, [], ◌∷◌, ◌++◌, ◌+◌, ◌<◌, IfSome, length, map, take, get_or, Option, Some, None, refl, sym, ap, subst, ◌∙◌}
use Rattle.std.specs.Prelude.{Vec, is_none, filter, not, option_map}
use Rattle.std.specs.declared.alloc.Global.{Global}
use Rattle.std.specs.declared.cmp.Ordering.{Ordering}
use Rattle.std.specs.declared.cmp.Ordering.TheVariants.{Less, Equal, Greater}
use Rattle.std.specs.Ordering.{eq_by_cmp, is_eq}
use Rattle.std.specs.FinMap.Entries.{put, where_key, by_order}
use Rattle.std.proofs.lemmas.Bool.{false≢true}
use Rattle.std.proofs.lemmas.List.{map-append, take_more}
use Rattle.pid_file.proofs.Maps.{same_texts}
use Rattle.pid_file.specs.PathTexts.{path_text}
use Rattle.pid_file.specs.Trees.{text_cmp}
use Rattle.pid_ident.proofs.PathReadingLemmas.{text_of_parent}
use Rattle.pid_service.proofs.Words.{Add, affected, Change, changed, children_of, Decided, Edit, edited, Effect, HoldsTop, Item, Items, pair_of, parent_of, Path, Remove, Rename, stands_below, Views}
use Rattle.pid_service.proofs.RenewedChanges.{kept_items}
use Rattle.pid_moderation.specs.declared.change.Write.{Write}
use Rattle.pid_moderation.specs.declared.facts.State.{State}

-- ---- what a change does

-- a receipt changes none of it

-- what is right about the effect of a change is right about the change
pub still_top : (change : Change) (v : Views) (top : Option (Vec Item Global)) → HoldsTop top (affected change.revision change.effect v) → HoldsTop top (changed change v)
still_top change v None holds = tt
still_top change v (Some top) holds = holds ∙ sym (ap (children_of None) (kept_items change.receipt (affected change.revision change.effect v)))

-- entries whose keys pass a test, which one key does not
module _ (p : List ℕ → Bool) (key : List ℕ) (off : p key ≡ false) where
  -- they are the same after that key was put
  put_passes : (name : List ℕ) (items : Items) → filter (λ e. p e.0) (put text_cmp key name items) ≡ filter (λ e. p e.0) items
  put_passes name [] = ap (λ b. cond b ((key, name) ∷ []) []) off
  put_passes name (e ∷ items) = by_place (text_cmp key e.0) refl (put_passes name items)
    where
      by_place : (o : Ordering) → text_cmp key e.0 ≡ o → filter (λ e. p e.0) (put text_cmp key name items) ≡ filter (λ e. p e.0) items → filter (λ e. p e.0) (by_order o ((key, name) ∷ e ∷ items) ((e.0, name) ∷ items) (e ∷ put text_cmp key name items)) ≡ filter (λ e. p e.0) (e ∷ items)
      by_place Less is rest = ap (λ b. cond b ((key, name) ∷ filter (λ e. p e.0) (e ∷ items)) (filter (λ e. p e.0) (e ∷ items))) off
      by_place Equal is rest =
          let none : p e.0 ≡ false = ap p (sym (same_texts key e.0 is)) ∙ off in
          ap (λ b. cond b ((e.0, name) ∷ filter (λ e. p e.0) items) (filter (λ e. p e.0) items)) none ∙ sym (ap (λ b. cond b (e ∷ filter (λ e. p e.0) items) (filter (λ e. p e.0) items)) none)
      by_place Greater is rest = ap (λ es. cond (p e.0) (e ∷ es) es) rest

  -- and after it was taken away
  left_passes : (items : Items) → filter (λ e. p e.0) (where_key text_cmp (λ k. not (eq_by_cmp text_cmp key k)) items) ≡ filter (λ e. p e.0) items
  left_passes [] = refl
  left_passes (e ∷ items) = by_order_of (text_cmp key e.0) refl (left_passes items)
    where
      by_order_of : (o : Ordering) → text_cmp key e.0 ≡ o → filter (λ e. p e.0) (where_key text_cmp (λ k. not (eq_by_cmp text_cmp key k)) items) ≡ filter (λ e. p e.0) items → filter (λ e. p e.0) (cond (not (is_eq o)) (e ∷ where_key text_cmp (λ k. not (eq_by_cmp text_cmp key k)) items) (where_key text_cmp (λ k. not (eq_by_cmp text_cmp key k)) items)) ≡ filter (λ e. p e.0) (e ∷ items)
      by_order_of Less is rest = ap (λ es. cond (p e.0) (e ∷ es) es) rest
      by_order_of Equal is rest =
          let none : p e.0 ≡ false = ap p (sym (same_texts key e.0 is)) ∙ off in
          rest ∙ sym (ap (λ b. cond b (e ∷ filter (λ e. p e.0) items) (filter (λ e. p e.0) items)) none)
      by_order_of Greater is rest = ap (λ es. cond (p e.0) (e ∷ es) es) rest

  edit_passes : (edit : Edit) (items : Items) → filter (λ e. p e.0) (edited key edit items) ≡ filter (λ e. p e.0) items
  edit_passes (Add name) items = put_passes name items
  edit_passes (Rename name) items = put_passes name items
  edit_passes Remove items = left_passes items

not_top : (path : Path) → is_none (parent_of path) ≡ false → stands_below None (path_text path) ≡ false
not_top path some = ap is_none (text_of_parent path) ∙ none (parent_of path) some
  where
    none : (o : Option Path) → is_none o ≡ false → is_none (option_map path_text o) ≡ false
    none None some = some
    none (Some above) some = refl

-- an item with a parent that is written leaves those at the top
pub top_left : (path : Path) (edit : Edit) (items : Items) → is_none (parent_of path) ≡ false → children_of None (edited (path_text path) edit items) ≡ children_of None items
top_left path edit items some = edit_passes (stands_below None) (path_text path) (not_top path some) edit items

-- the same of a decision that writes it
pub top_decided : (effect : Effect) (number : ℕ) (state : State) (w : Option Write) (one : Write) → effect ≡ Decided number state w → w ≡ Some one → is_none (parent_of one.path) ≡ false → (n : ℕ) (v : Views) → children_of None (affected n effect v).items ≡ children_of None v.items
top_decided effect number state w one is there some n v =
    subst (λ (e : Effect). children_of None (affected n e v).items ≡ children_of None v.items) (sym (is ∙ ap (λ (o : Option Write). Decided number state o) there)) (top_left one.path one.edit v.items some)

-- and of one that writes nothing
pub top_undecided : (effect : Effect) (number : ℕ) (state : State) (w : Option Write) → effect ≡ Decided number state w → w ≡ None → (n : ℕ) (v : Views) → children_of None (affected n effect v).items ≡ children_of None v.items
top_undecided effect number state w is none n v = subst (λ (e : Effect). children_of None (affected n e v).items ≡ children_of None v.items) (sym (is ∙ ap (λ (o : Option Write). Decided number state o) none)) refl

-- what is kept is right over views with the same vendors and classes
pub top_same : (top : Option (Vec Item Global)) (v w : Views) → children_of None w.items ≡ children_of None v.items → HoldsTop top v → HoldsTop top w
top_same None v w same holds = tt
top_same (Some top) v w same holds = holds ∙ sym same

-- ---- a copy of items

-- one more
pub one_copied : (items : List Item) (i : ℕ) (item : Item) (copy now : List Item) → i < length items → get_or items i item ≡ item → map pair_of copy ≡ map pair_of (take i items) → map pair_of now ≡ map pair_of copy ++ pair_of item ∷ []
    → map pair_of now ≡ map pair_of (take (i + 1) items)
one_copied items i item copy now low is so more =
    let taken : take (i + 1) items ≡ take i items ++ item ∷ [] = take_more items i item low ∙ ap (λ (q : Item). take i items ++ q ∷ []) is in
    more ∙ ap (λ (l : List (List ℕ × List ℕ)). l ++ pair_of item ∷ []) so ∙ sym (ap (map pair_of) taken ∙ map-append pair_of (take i items) (item ∷ []))

-- a copy of the vendors and the classes has them too
pub copied_holds : (items : List Item) (copy : Option (Vec Item Global)) (v : Views) → map pair_of items ≡ children_of None v.items → IfSome copy (λ made. map pair_of made.items ≡ map pair_of items) → HoldsTop copy v
copied_holds items None v told same = tt
copied_holds items (Some made) v told same = same ∙ told

-- and so is one that is asked for
pub top_found : (top : Option (Vec Item Global)) (kept : Vec Item Global) (copy : Option (Vec Item Global)) (above : Option Path) (v : Views) → top ≡ Some kept → is_none above ≡ true → IfSome copy (λ made. map pair_of made.items ≡ map pair_of kept.items) → HoldsTop top v
    → IfSome copy (λ made. map pair_of made.items ≡ children_of (option_map path_text above) v.items)
top_found top kept copy None v is none same holds = copied_holds kept.items copy v (subst (λ (t : Option (Vec Item Global)). HoldsTop t v) is holds) same
top_found top kept copy (Some path) v is none same holds = absurd (false≢true none)
