-- The items that were changed last, after one item is written.
use Rattle.std.proofs.Common.{◌≡◌, ◌≢◌, ℕ, ◌+◌, ◌<◌, Bool, true, false, cond, not, List, [], ◌∷◌, ◌++◌, length, map, take, filter, get_or, Option, Some, None, arith, refl, sym, ap, subst, ◌∙◌, ◌⊎◌, inl, inr, append_assoc}
use Rattle.std.specs.Prelude.{◌&&◌, is_none, nat_lt}
use Rattle.std.specs.Ordering.{is_gt, is_lt}
use Rattle.std.specs.FinMap.Entries.{below_all, is_sorted}
use Rattle.std.specs.declared.cmp.Ordering.{Ordering}
use Rattle.std.specs.declared.cmp.Ordering.TheVariants.{Less, Equal, Greater}
use Rattle.std.specs.Cmp.Lexicographic.{nat_list_cmp_total}
use Rattle.std.proofs.lemmas.Bool.Decides.{nat_tests}
use Rattle.std.proofs.lemmas.Cmp.{tied_itself}
use Rattle.std.proofs.lemmas.List.{map-append, take_more}
use Rattle.std.proofs.lemmas.List.Elements.{filter-append}
use Rattle.pid_file.specs.PathTexts.{path_text}
use Rattle.pid_file.specs.Trees.{text_cmp}
use Rattle.pid_file.proofs.Maps.{same_texts}
use Rattle.pid_moderation.specs.ChangePages.{Changed}
use Rattle.pid_moderation.specs.declared.change.Write.{Write}
use Rattle.pid_moderation.specs.declared.facts.State.{State}
use Rattle.pid_moderation.proofs.Changing.{not_anew}
use Rattle.pid_tables.proofs.OfRows.SetLemmas.{name_left, name_put}
use Rattle.pid_service.proofs.Words.{Add, affected, Change, changed, changed_after, changed_item, changed_of, ChangedItem, Decided, Edit, edited, edited_item, Effect, FitsEdit, FitsEffect, has_name, HoldsChanges, is_later, is_named_anew, is_on, Items, keeping, KeptChanges, name_at, numbered_in, on_side, Path, Receipt, Remove, Rename, renumbered, Views, with_edit, with_items}
use Rattle.pid_service.proofs.ChangedLists.{after_nothing, both, kept_since, same_changes}
use Rattle.pid_service.proofs.RenewedTexts.{below_less, edited_after, edited_there, less_is}
use Rattle.pid_reader.proofs.Written.{both_true}

-- ---- where a path divides items

abbrev side : Bool → List ℕ → Items → Items
side before key = filter (λ e. is_on before key e.0)

-- of what comes after a path nothing comes before it
none_before : (key : List ℕ) (items : Items) → below_all text_cmp key items ≡ true → side true key items ≡ []
none_before key [] all = refl
none_before key (e ∷ items) all =
    let parts = both_true (is_lt (text_cmp key e.0)) (below_all text_cmp key items) all in
    ap (λ o. cond (is_gt o) (e ∷ side true key items) (side true key items)) (less_is _ parts.0) ∙ none_before key items parts.1

-- and all comes after it
all_after : (key : List ℕ) (items : Items) → below_all text_cmp key items ≡ true → side false key items ≡ items
all_after key [] all = refl
all_after key (e ∷ items) all =
    let parts = both_true (is_lt (text_cmp key e.0)) (below_all text_cmp key items) all in
    ap (λ b. cond b (e ∷ side false key items) (side false key items)) parts.0 ∙ ap (λ (l : Items). e ∷ l) (all_after key items parts.1)

-- an edit leaves what comes before its path, and what comes after it
divided : (key : List ℕ) (edit : Edit) (items : Items) → is_sorted text_cmp items ≡ true → edited key edit items ≡ side true key items ++ (edited_item key edit ++ side false key items)
divided key edit [] sorted = edited_there key edit [] false [] tt refl
divided key edit (e ∷ items) sorted = by_place (text_cmp key e.0) refl (divided key edit items (both_true (below_all text_cmp e.0 items) (is_sorted text_cmp items) sorted).1)
  where
    above : below_all text_cmp e.0 items ≡ true
    above = (both_true (below_all text_cmp e.0 items) (is_sorted text_cmp items) sorted).0

    parted : Ordering → Items
    parted o = cond (is_gt o) (e ∷ side true key items) (side true key items) ++ (edited_item key edit ++ cond (is_lt o) (e ∷ side false key items) (side false key items))

    by_place : (o : Ordering) → text_cmp key e.0 ≡ o → edited key edit items ≡ side true key items ++ (edited_item key edit ++ side false key items) → edited key edit (e ∷ items) ≡ parted (text_cmp key e.0)
    by_place Less is rest =
        let below : below_all text_cmp key items ≡ true = below_less key e.0 items is above in
        edited_there key edit [] false (e ∷ items) is sorted
        ∙ sym (ap parted is ∙ (λ i. none_before key items below i ++ (edited_item key edit ++ e ∷ all_after key items below i)))
    by_place Equal is rest =
        let below : below_all text_cmp key items ≡ true = subst (λ (k : List ℕ). below_all text_cmp k items ≡ true) (sym (same_texts key e.0 is)) above in
        edited_there key edit [] true (e ∷ items) is sorted
        ∙ sym (ap parted is ∙ (λ i. none_before key items below i ++ (edited_item key edit ++ all_after key items below i)))
    by_place Greater is rest =
        edited_after key edit [] (e ∷ []) items (is, tt) ∙ ap (λ (l : Items). e ∷ l) rest ∙ sym (ap parted is)

-- ---- numbers of other paths, and of the one that is written

on_differs : (before : Bool) (key path : List ℕ) → is_on before key path ≡ true → path ≢ key
on_differs true key path is same = absurd (let bad : false ≡ true = sym (ap is_gt (ap (text_cmp key) same ∙ tied_itself nat_list_cmp_total key)) ∙ is in let no : ⊥ = cc in no)
on_differs false key path is same = absurd (let bad : false ≡ true = sym (ap is_lt (ap (text_cmp key) same ∙ tied_itself nat_list_cmp_total key)) ∙ is in let no : ⊥ = cc in no)

-- another path keeps its name
other_name : (key : List ℕ) (edit : Edit) (items : Items) (path : List ℕ) → path ≢ key → name_at path (edited key edit items) ≡ name_at path items
other_name key (Add name) items path other = (name_put items key name).past path other
other_name key (Rename name) items path other = (name_put items key name).past path other
other_name key Remove items path other = (name_left items key).past path other

-- and its number
other_number : (n : ℕ) (key : List ℕ) (edit : Edit) (v : Views) (path : List ℕ) → path ≢ key → renumbered n v.items (edited key edit v.items) v.since path ≡ v.since path
other_number n key edit v path other =
    ap (λ now. cond (is_named_anew (name_at path v.items) now) n (v.since path)) (other_name key edit v.items path other)
    ∙ ap (λ b. cond b n (v.since path)) (not_anew (name_at path v.items))

-- a name that was put has the number
put_number : (n : ℕ) (key name : List ℕ) (v : Views) → has_name name (name_at key v.items) ≡ false → renumbered n v.items (edited key (Add name) v.items) v.since key ≡ n
put_number n key name v other =
    ap (λ now. cond (is_named_anew (name_at key v.items) now) n (v.since key)) (name_put v.items key name).at
    ∙ ap (λ b. cond (not b) n (v.since key)) other

absent_name : (name : List ℕ) (o : Option (List ℕ)) → is_none o ≡ true → has_name name o ≡ false
absent_name name None is = refl
absent_name name (Some old) is = absurd (let bad : false ≡ true = is in let no : ⊥ = cc in no)

-- ---- what was changed

-- of items on a side where the numbers stay
side_changed : (q : List ℕ → Bool) (s : ℕ) (v w : Views) → ((path : List ℕ) → q path ≡ true → w.since path ≡ v.since path) → (items : Items)
    → map (numbered_in w) (filter (is_later s [] w) (filter (λ e. q e.0) items)) ≡ filter (λ c. q c.path) (map (numbered_in v) (filter (is_later s [] v) items))
side_changed q s v w same [] = refl
side_changed q s v w same (e ∷ items) = by_tests (q e.0) (is_later s [] v e) refl refl (side_changed q s v w same items)
  where
    ours : Items
    ours = filter (λ e. q e.0) items

    theirs : Items
    theirs = filter (is_later s [] v) items

    later : (b : Bool) → q e.0 ≡ true → is_later s [] v e ≡ b → is_later s [] w e ≡ b
    later b on is = ap (λ n. is_lt (text_cmp [] e.0) && nat_lt s n) (same e.0 on) ∙ is

    by_tests : (a b : Bool) → q e.0 ≡ a → is_later s [] v e ≡ b
        → map (numbered_in w) (filter (is_later s [] w) ours) ≡ filter (λ c. q c.path) (map (numbered_in v) theirs)
        → map (numbered_in w) (filter (is_later s [] w) (cond a (e ∷ ours) ours)) ≡ filter (λ c. q c.path) (map (numbered_in v) (cond b (e ∷ theirs) theirs))
    by_tests true true on is rest =
        ap (λ t. map (numbered_in w) (cond t (e ∷ filter (is_later s [] w) ours) (filter (is_later s [] w) ours))) (later true on is)
        ∙ (λ i. record { path = e.0; name = e.1; since = same e.0 on i } ∷ rest i)
        ∙ sym (ap (λ t. cond t (numbered_in v e ∷ filter (λ c. q c.path) (map (numbered_in v) theirs)) (filter (λ c. q c.path) (map (numbered_in v) theirs))) on)
    by_tests true false on is rest =
        ap (λ t. map (numbered_in w) (cond t (e ∷ filter (is_later s [] w) ours) (filter (is_later s [] w) ours))) (later false on is) ∙ rest
    by_tests false true off is rest =
        rest ∙ sym (ap (λ t. cond t (numbered_in v e ∷ filter (λ c. q c.path) (map (numbered_in v) theirs)) (filter (λ c. q c.path) (map (numbered_in v) theirs))) off)
    by_tests false false off is rest = rest

module _ (n s : ℕ) (path : Path) (v : Views) (less : s < n) where
  abbrev key : List ℕ
  key = path_text path

  abbrev after : Edit → Views
  after edit = with_items n (edited key edit v.items) v

  abbrev told : Edit → Items → List Changed
  told edit items = map (numbered_in (after edit)) (filter (is_later s [] (after edit)) items)

  told_both : (edit : Edit) (xs ys : Items) → told edit (xs ++ ys) ≡ told edit xs ++ told edit ys
  told_both edit xs ys =
      ap (map (numbered_in (after edit))) (filter-append (is_later s [] (after edit)) xs ys)
      ∙ map-append (numbered_in (after edit)) (filter (is_later s [] (after edit)) xs) (filter (is_later s [] (after edit)) ys)

  told_side : (edit : Edit) (before : Bool) → told edit (side before key v.items) ≡ on_side before key (changed_after s [] v)
  told_side edit before = side_changed (is_on before key) s v (after edit) (λ p on. other_number n key edit v p (on_differs before key p on)) v.items

  told_one : (edit : Edit) (name : List ℕ) → (after edit).since key ≡ n → told edit ((key, name) ∷ []) ≡ record { path = key; name = name; since = n } ∷ []
  told_one edit name is =
      let larger : nat_lt s n ≡ true = grind (arith, nat_tests, less) in
      let above : nat_lt s ((after edit).since key) ≡ true = ap (nat_lt s) is ∙ larger in
      ap (λ t. map (numbered_in (after edit)) (cond t ((key, name) ∷ []) [])) (both _ _ (after_nothing path) above)
      ∙ ap (λ (k : ℕ). record { path = key; name = name; since = k } ∷ []) is

  told_item : (edit : Edit) → FitsEdit edit (name_at key v.items) → told edit (edited_item key edit) ≡ changed_item n key edit
  told_item (Add name) fits = told_one (Add name) name (put_number n key name v (absent_name name (name_at key v.items) fits))
  told_item (Rename name) fits = told_one (Rename name) name (put_number n key name v fits.1)
  told_item Remove fits = refl

  -- the written item has its place among what was changed
  pub changed_with : (edit : Edit) → is_sorted text_cmp v.items ≡ true → FitsEdit edit (name_at key v.items) → changed_after s [] (after edit) ≡ with_edit n key edit (changed_after s [] v)
  changed_with edit sorted fits =
      ap (told edit) (divided key edit v.items sorted)
      ∙ told_both edit (side true key v.items) (edited_item key edit ++ side false key v.items)
      ∙ (λ i. told_side edit true i ++ (told_both edit (edited_item key edit) (side false key v.items) ∙ (λ j. told_item edit fits j ++ told_side edit false j)) i)

-- ---- a list that is made again

-- one copy more
pub one_sided : (p : Changed → Bool) (all : List ChangedItem) (i : ℕ) (item : ChangedItem) (start page now : List ChangedItem) → i < length all → get_or all i item ≡ item → map changed_of page ≡ map changed_of start ++ filter p (map changed_of (take i all)) → map changed_of now ≡ map changed_of page ++ filter p (changed_of item ∷ [])
    → map changed_of now ≡ map changed_of start ++ filter p (map changed_of (take (i + 1) all))
one_sided p all i item start page now low is so more =
    let taken : take (i + 1) all ≡ take i all ++ item ∷ [] = take_more all i item low ∙ ap (λ (q : ChangedItem). take i all ++ q ∷ []) is in
    more ∙ ap (λ (l : List Changed). l ++ filter p (changed_of item ∷ [])) so
    ∙ append_assoc (map changed_of start) (filter p (map changed_of (take i all))) (filter p (changed_of item ∷ []))
    ∙ ap (λ (l : List Changed). map changed_of start ++ l)
    (sym (ap (λ (l : List ChangedItem). filter p (map changed_of l)) taken ∙ ap (filter p) (map-append changed_of (take i all) (item ∷ [])) ∙ filter-append p (map changed_of (take i all)) (changed_of item ∷ [])))

-- the item that a name makes
pub named_item : (n : ℕ) (path : List ℕ) (edit : Edit) (name shown : List ℕ) → (edit ≡ Add name) ⊎ (edit ≡ Rename name) → shown ≡ name → ◌≡◌ {A = List Changed} (record { path = path; name = shown; since = n } ∷ []) (changed_item n path edit)
named_item n path edit name shown (inl is) same = (λ i. record { path = path; name = same i; since = n } ∷ []) ∙ sym (ap (changed_item n path) is)
named_item n path edit name shown (inr is) same = (λ i. record { path = path; name = same i; since = n } ∷ []) ∙ sym (ap (changed_item n path) is)

-- three parts that were added in turn
pub three_added : (none one two three : List ChangedItem) (a b c : List Changed) → map changed_of one ≡ map changed_of none ++ a → map changed_of two ≡ map changed_of one ++ b → map changed_of three ≡ map changed_of two ++ c → none ≡ [] → map changed_of three ≡ a ++ (b ++ c)
three_added none one two three a b c first second third is =
    third ∙ ap (λ (l : List Changed). l ++ c) (second ∙ ap (λ (l : List Changed). l ++ b) (first ∙ ap (λ (l : List ChangedItem). map changed_of l ++ a) is)) ∙ append_assoc a b c

-- ---- a decision

pub decided_changes : (effect : Effect) (number : ℕ) (state : State) (w : Option Write) (one : Write) → effect ≡ Decided number state w → w ≡ Some one → (n : ℕ) (v : Views) (result : Option KeptChanges) → FitsEffect effect v
    → (FitsEdit one.edit (name_at (path_text one.path) v.items) → HoldsChanges result (with_items n (edited (path_text one.path) one.edit v.items) v)) → HoldsChanges result (affected n effect v)
decided_changes effect number state w one is there n v result fits step =
    let this : effect ≡ Decided number state (Some one) = is ∙ ap (λ (o : Option Write). Decided number state o) there in
    let fit : FitsEffect (Decided number state (Some one)) v = subst (λ (e : Effect). FitsEffect e v) this fits in
    subst (λ (e : Effect). HoldsChanges result (affected n e v)) (sym this)
    (same_changes result (with_items n (edited (path_text one.path) one.edit v.items) v) (affected n (Decided number state (Some one)) v) refl refl (step fit.1.1))

pub kept_items : (r : Option Receipt) (v : Views) → (keeping r v).items ≡ v.items
kept_items None v = refl
kept_items (Some r) v = refl

-- what is right about the effect of a change is right about the change
pub still_changes : (change : Change) (v : Views) (kept : Option KeptChanges) → HoldsChanges kept (affected change.revision change.effect v) → HoldsChanges kept (changed change v)
still_changes change v kept holds =
    let w = affected change.revision change.effect v in
    same_changes kept w (changed change v) (kept_items change.receipt w) (kept_since change.receipt w) holds
