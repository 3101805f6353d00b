-- The text of all items when one of them is written: what comes before its place stays, and so does
-- what comes behind it.
use Rattle.std.proofs.Common.{◌≡◌, ℕ, zero, suc, ◌+◌, Bool, true, false, cond, not, List, [], ◌∷◌, ◌++◌, length, take, drop, refl, sym, ap, subst, ◌∙◌, append_assoc, arith, length-append}
use Rattle.std.specs.Prelude.{if◌then◌else◌}
use Rattle.std.specs.List.{AllByRecursion}
use Rattle.std.specs.Ordering.{eq_by_cmp, is_eq, is_lt}
use Rattle.std.specs.Cmp.Lexicographic.{nat_list_cmp_total}
use Rattle.std.specs.FinMap.Entries.{below_all, by_order, is_sorted, put, where_key}
use Rattle.std.specs.declared.cmp.Ordering.{Ordering}
use Rattle.std.specs.declared.cmp.Ordering.TheVariants.{Less, Equal, Greater}
use Rattle.std.proofs.lemmas.List.{take-append-drop}
use Rattle.pid_file.proofs.Maps.{same_texts}
use Rattle.pid_file.specs.Trees.{text_cmp}
use Rattle.pid_service.proofs.Words.{Add, BeginsAt, block_line, bytes_in, Edit, edited, edited_item, ended, Extents, extents_after, header, item_line, Items, last_extent, lines_after, OpensTheSame, Remove, Rename, text_behind, text_of_items}
use Rattle.pid_service.proofs.ItemLines.{last_path, text_first, text_joined}
use Rattle.pid_reader.proofs.Written.{both_true}
use Rattle.pid_service.proofs.ChangedLists.{both}

-- ---- extents

-- their lengths add up to that of the text
bytes_after : (before : List ℕ) (items : Items) → bytes_in (extents_after before items) ≡ length (text_behind before items)
bytes_after before [] = refl
bytes_after before (item ∷ items) =
    let one = text_behind before (item ∷ []) in
    ap (λ n. length one + n) (bytes_after item.0 items) ∙ sym (ap length (text_first before item items) ∙ length-append one (text_behind item.0 items))

pub last_after : (before : List ℕ) (items : Items) → last_extent before (extents_after before items) ≡ last_path before items
last_after before [] = refl
last_after before (item ∷ items) = last_after item.0 items

pub take_extents : (before : List ℕ) (n : ℕ) (items : Items) → take n (extents_after before items) ≡ extents_after before (take n items)
take_extents before zero items = refl
take_extents before (suc n) [] = refl
take_extents before (suc n) (x ∷ items) = ap (λ (l : Extents). (x.0, length (text_behind before (x ∷ []))) ∷ l) (take_extents x.0 n items)

pub drop_extents : (before : List ℕ) (n : ℕ) (items : Items) → drop n (extents_after before items) ≡ extents_after (last_path before (take n items)) (drop n items)
drop_extents before zero items = refl
drop_extents before (suc n) [] = refl
drop_extents before (suc n) (x ∷ items) = drop_extents x.0 n items

-- ---- where the text is cut

pub take_front : (front rest : List ℕ) (n : ℕ) → n ≡ length front → take n (front ++ rest) ≡ front
take_front [] rest n is = ap (λ k. take k rest) is
take_front (x ∷ front) rest n is = ap (λ k. take k (x ∷ front ++ rest)) is ∙ ap (λ (l : List ℕ). x ∷ l) (take_front front rest (length front) refl)

pub drop_front : (front rest : List ℕ) (n : ℕ) → n ≡ length front → drop n (front ++ rest) ≡ rest
drop_front [] rest n is = ap (λ k. drop k rest) is
drop_front (x ∷ front) rest n is = ap (λ k. drop k (x ∷ front ++ rest)) is ∙ drop_front front rest (length front) refl

pub headed : (front text : List ℕ) → length front ≡ 17 → length (front ++ 10 ∷ text) ≡ 18 + length text
headed front text is = omega (arith, is, length-append {A = ℕ})

pub text_parts : (xs ys : Items) → text_of_items (xs ++ ys) ≡ text_of_items xs ++ text_behind (last_path [] xs) ys
text_parts xs ys = ap (λ (l : List ℕ). header ++ 10 ∷ l) (text_joined [] xs ys) ∙ sym (append_assoc header (10 ∷ text_behind [] xs) (text_behind (last_path [] xs) ys))

module _ (items : Items) (n at : ℕ) (is : at ≡ 18 + bytes_in (take n (extents_after [] items))) where
  pub cut_there : at ≡ length (text_of_items (take n items))
  cut_there = is ∙ ap (λ (l : Extents). 18 + bytes_in l) (take_extents [] n items) ∙ ap (λ k. 18 + k) (bytes_after [] (take n items)) ∙ sym (headed header (text_behind [] (take n items)) refl)

  pub cut_whole : text_of_items items ≡ text_of_items (take n items) ++ text_behind (last_path [] (take n items)) (drop n items)
  cut_whole = ap text_of_items (sym (take-append-drop n items)) ∙ text_parts (take n items) (drop n items)

  pub text_before : take at (text_of_items items) ≡ text_of_items (take n items)
  text_before = ap (take at) cut_whole ∙ take_front (text_of_items (take n items)) (text_behind (last_path [] (take n items)) (drop n items)) at cut_there

  pub text_after : drop at (text_of_items items) ≡ text_behind (last_path [] (take n items)) (drop n items)
  text_after = ap (drop at) cut_whole ∙ drop_front (text_of_items (take n items)) (text_behind (last_path [] (take n items)) (drop n items)) at cut_there

-- ---- what comes behind another item

pub text_follows : (before now : List ℕ) (items : Items) → OpensTheSame before now (extents_after before items) → text_behind before items ≡ text_behind now items
text_follows before now [] same = refl
text_follows before now (item ∷ items) same = ap (λ b. ended ((if b then block_line item.0 ∷ [] else []) ++ item_line item ∷ lines_after item.0 items)) same

pub extents_follow : (before now : List ℕ) (items : Items) → OpensTheSame before now (extents_after before items) → extents_after before items ≡ extents_after now items
extents_follow before now [] same = refl
extents_follow before now (item ∷ items) same = ap (λ b. (item.0, length (ended ((if b then block_line item.0 ∷ [] else []) ++ item_line item ∷ []))) ∷ extents_after item.0 items) same

-- ---- what an edit of a path does to items

-- what comes after a later path comes after this one
pub less_is : (o : Ordering) → is_lt o ≡ true → o ≡ Less
less_is Less is = refl
less_is Equal is = absurd (let bad : false ≡ true = is in let no : ⊥ = cc in no)
less_is Greater is = absurd (let bad : false ≡ true = is in let no : ⊥ = cc in no)

pub below_less : (x y : List ℕ) (items : Items) → text_cmp x y ≡ Less → below_all text_cmp y items ≡ true → below_all text_cmp x items ≡ true
below_less x y [] less all = refl
below_less x y (e ∷ items) less all =
    let parts = both_true (is_lt (text_cmp y e.0)) (below_all text_cmp y items) all in
    both _ _ (ap is_lt (nat_list_cmp_total.trans x y e.0 less (less_is _ parts.0))) (below_less x y items less parts.1)

abbrev without : List ℕ → Items → Items
without key items = where_key text_cmp (λ k. not (eq_by_cmp text_cmp key k)) items

-- nothing is taken away of what comes after the path
none_left_out : (key : List ℕ) (items : Items) → below_all text_cmp key items ≡ true → without key items ≡ items
none_left_out key [] all = refl
none_left_out key (e ∷ items) all =
    let parts = both_true (is_lt (text_cmp key e.0)) (below_all text_cmp key items) all in
    ap (λ o. cond (not (is_eq o)) (e ∷ without key items) (without key items)) (less_is _ parts.0) ∙ ap (λ (l : Items). e ∷ l) (none_left_out key items parts.1)

-- what comes before the path stays
pub edited_after : (key : List ℕ) (edit : Edit) (before : List ℕ) (front rest : Items) → AllByRecursion (λ (e : List ℕ × ℕ). text_cmp key e.0 ≡ Greater) (extents_after before front) → edited key edit (front ++ rest) ≡ front ++ edited key edit rest
edited_after key edit before [] rest all = refl
edited_after key (Add name) before (e ∷ front) rest all = ap (λ o. by_order o ((key, name) ∷ e ∷ front ++ rest) ((e.0, name) ∷ front ++ rest) (e ∷ put text_cmp key name (front ++ rest))) all.0 ∙ ap (λ (l : Items). e ∷ l) (edited_after key (Add name) e.0 front rest all.1)
edited_after key (Rename name) before (e ∷ front) rest all = ap (λ o. by_order o ((key, name) ∷ e ∷ front ++ rest) ((e.0, name) ∷ front ++ rest) (e ∷ put text_cmp key name (front ++ rest))) all.0 ∙ ap (λ (l : Items). e ∷ l) (edited_after key (Rename name) e.0 front rest all.1)
edited_after key Remove before (e ∷ front) rest all = ap (λ o. cond (not (is_eq o)) (e ∷ without key (front ++ rest)) (without key (front ++ rest))) all.0 ∙ ap (λ (l : Items). e ∷ l) (edited_after key Remove e.0 front rest all.1)

-- at its place the path has what the edit leaves
put_there : (key name before : List ℕ) (there : Bool) (items : Items) → BeginsAt key there (extents_after before items) → put text_cmp key name items ≡ (key, name) ∷ drop (cond there 1 0) items
put_there key name before true [] stands = absurd stands
put_there key name before true (e ∷ items) stands =
    ap (λ o. by_order o ((key, name) ∷ e ∷ items) ((e.0, name) ∷ items) (e ∷ put text_cmp key name items)) stands ∙ ap (λ (k : List ℕ). (k, name) ∷ items) (sym (same_texts key e.0 stands))
put_there key name before false [] stands = refl
put_there key name before false (e ∷ items) stands = ap (λ o. by_order o ((key, name) ∷ e ∷ items) ((e.0, name) ∷ items) (e ∷ put text_cmp key name items)) stands

left_there : (key before : List ℕ) (there : Bool) (items : Items) → BeginsAt key there (extents_after before items) → is_sorted text_cmp items ≡ true → without key items ≡ drop (cond there 1 0) items
left_there key before true [] stands sorted = absurd stands
left_there key before true (e ∷ items) stands sorted =
    let above = (both_true (below_all text_cmp e.0 items) (is_sorted text_cmp items) sorted).0 in
    ap (λ o. cond (not (is_eq o)) (e ∷ without key items) (without key items)) stands
    ∙ none_left_out key items (subst (λ (k : List ℕ). below_all text_cmp k items ≡ true) (sym (same_texts key e.0 stands)) above)
left_there key before false [] stands sorted = refl
left_there key before false (e ∷ items) stands sorted =
    let above = (both_true (below_all text_cmp e.0 items) (is_sorted text_cmp items) sorted).0 in
    none_left_out key (e ∷ items) (both _ _ (ap is_lt stands) (below_less key e.0 items stands above))

pub edited_there : (key : List ℕ) (edit : Edit) (before : List ℕ) (there : Bool) (items : Items) → BeginsAt key there (extents_after before items) → is_sorted text_cmp items ≡ true → edited key edit items ≡ edited_item key edit ++ drop (cond there 1 0) items
edited_there key (Add name) before there items stands sorted = put_there key name before there items stands
edited_there key (Rename name) before there items stands sorted = put_there key name before there items stands
edited_there key Remove before there items stands sorted = left_there key before there items stands sorted

sorted_drop : (n : ℕ) (items : Items) → is_sorted text_cmp items ≡ true → is_sorted text_cmp (drop n items) ≡ true
sorted_drop zero items sorted = sorted
sorted_drop (suc n) [] sorted = sorted
sorted_drop (suc n) (e ∷ items) sorted = sorted_drop n items (both_true (below_all text_cmp e.0 items) (is_sorted text_cmp items) sorted).1

drop_none : (n : ℕ) → ◌≡◌ {A = Items} (drop n []) []
drop_none zero = refl
drop_none (suc n) = refl

drop_more : (n : ℕ) (items : Items) → drop 1 (drop n items) ≡ drop (n + 1) items
drop_more zero items = refl
drop_more (suc n) [] = sym (drop_none (suc n + 1))
drop_more (suc n) (e ∷ items) =
    let more : suc (n + 1) ≡ suc n + 1 = omega arith in
    drop_more n items ∙ ap (λ k. drop k (e ∷ items)) more

after_it : (there : Bool) (n after : ℕ) (items : Items) → after ≡ (if there then n + 1 else n) → drop (cond there 1 0) (drop n items) ≡ drop after items
after_it true n after items is = drop_more n items ∙ ap (λ k. drop k items) (sym is)
after_it false n after items is = ap (λ k. drop k items) (sym is)

-- an edit in parts: what comes before the place, what the edit leaves, and what comes behind
pub edited_parts : (key : List ℕ) (edit : Edit) (there : Bool) (n after : ℕ) (items : Items) → is_sorted text_cmp items ≡ true → after ≡ (if there then n + 1 else n)
    → AllByRecursion (λ (e : List ℕ × ℕ). text_cmp key e.0 ≡ Greater) (take n (extents_after [] items)) → BeginsAt key there (drop n (extents_after [] items))
    → edited key edit items ≡ take n items ++ (edited_item key edit ++ drop after items)
edited_parts key edit there n after items sorted is below stands =
    let front = subst (λ (l : Extents). AllByRecursion (λ (e : List ℕ × ℕ). text_cmp key e.0 ≡ Greater) l) (take_extents [] n items) below in
    let here = subst (λ (l : Extents). BeginsAt key there l) (drop_extents [] n items) stands in
    ap (edited key edit) (sym (take-append-drop n items)) ∙ edited_after key edit [] (take n items) (drop n items) front
    ∙ ap (λ (l : Items). take n items ++ l) (edited_there key edit (last_path [] (take n items)) there (drop n items) here (sorted_drop n items sorted) ∙ ap (λ (l : Items). edited_item key edit ++ l) (after_it there n after items is))

-- the path of the last item with lines: that of the place, or the one before it
last_more : (before : List ℕ) (n : ℕ) (key : List ℕ) (items : Items) → BeginsAt key true (drop n (extents_after before items)) → last_path before (take (n + 1) items) ≡ key
last_more before zero key [] stands = absurd stands
last_more before zero key (e ∷ items) stands = sym (same_texts key e.0 stands)
last_more before (suc n) key [] stands = absurd stands
last_more before (suc n) key (e ∷ items) stands =
    let more : suc n + 1 ≡ suc (n + 1) = omega arith in
    ap (λ k. last_path before (take k (e ∷ items))) more ∙ last_more e.0 n key items stands

pub last_there : (there : Bool) (n after : ℕ) (key : List ℕ) (items : Items) → after ≡ (if there then n + 1 else n) → BeginsAt key there (drop n (extents_after [] items)) → last_path [] (take after items) ≡ (if there then key else last_path [] (take n items))
last_there true n after key items is stands = ap (λ k. last_path [] (take k items)) is ∙ last_more [] n key items stands
last_there false n after key items is stands = ap (λ k. last_path [] (take k items)) is
