-- A text in which new lines were put in the place of old ones.
use Rattle.std.proofs.Common.{◌≡◌, ◌-◌, ◌+◌, add-one, arith, ℕ, Bool, true, false, List, [], ◌∷◌, ◌++◌, ◌⊎◌, length, map, take, drop, Option, Some, None, inl, inr, refl, sym, ap, subst, ◌∙◌}
use mathlib.Core.Bool.{beq}
use Rattle.std.specs.Prelude.{◌==◌, if◌then◌else◌, not, slice_get}
use Rattle.std.proofs.Math.Seq.{take-length}
use Rattle.std.proofs.lemmas.Bool.{false≢true}
use Rattle.std.proofs.lemmas.Bool.Decides.{nat_tests}
use Rattle.std.proofs.lemmas.List.{length-drop}
use Rattle.pid_file.specs.Printing.{opens_block}
use Rattle.std.specs.FinMap.Entries.{is_sorted}
use Rattle.std.proofs.lemmas.List.{map-append, take-map, drop-map}
use Rattle.pid_file.specs.PathTexts.{path_text}
use Rattle.pid_file.specs.Trees.{text_cmp}
use Rattle.pid_moderation.specs.declared.change.Write.{Write}
use Rattle.pid_moderation.specs.declared.facts.State.{State}
use Rattle.pid_service.proofs.Words.{Add, affected, Decided, Edit, edited, Effect, HoldsText, Views, edited_item, Extent, extent_in, Extents, extents_after, GrowingText, has_lines, HasLines, IsKeptText, IsPlace, Items, KeptText, last_extent, new_items, OpensTheSame, Path, path_before, PutsLines, Remove, Rename, text_behind, text_of_items, text_or_none, TextPlace}
use Rattle.pid_service.proofs.ItemLines.{extents_joined, last_path, text_joined}
use Rattle.pid_service.proofs.RenewedTexts.{drop_extents, edited_parts, extents_follow, last_after, last_there, take_extents, text_after, text_before, text_follows, text_parts}

-- the path after which what is behind comes, before the edit
last_was : (there : Bool) (path : Path) (before : Option Path) → text_or_none (if there then Some path else before) ≡ (if there then path_text path else text_or_none before)
last_was true path before = refl
last_was false path before = refl

-- and with the edit
last_now : (path : Path) (edit : Edit) (before : Option Path) (extents : List Extent) → map extent_in extents ≡ extents_after (text_or_none before) (edited_item (path_text path) edit)
    → text_or_none (if has_lines extents then Some path else before) ≡ last_path (text_or_none before) (edited_item (path_text path) edit)
last_now path (Add name) before [] is = absurd (let no : ⊥ = cc in no)
last_now path (Add name) before (e ∷ extents) is = refl
last_now path (Rename name) before [] is = absurd (let no : ⊥ = cc in no)
last_now path (Rename name) before (e ∷ extents) is = refl
last_now path Remove before [] is = refl
last_now path Remove before (e ∷ extents) is = absurd (let no : ⊥ = cc in no)

-- the lines of a name that an edit gives
pub lines_given : (text : GrowingText) (before : List ℕ) (write : Write) (name shown : List ℕ) → (write.edit ≡ Add name) ⊎ (write.edit ≡ Rename name) → shown ≡ name
    → HasLines text (text_behind before ((path_text write.path, shown) ∷ [])) (extents_after before ((path_text write.path, shown) ∷ [])) → HasLines text (text_behind before (new_items write)) (extents_after before (new_items write))
lines_given text before write name shown is same has =
    let items : new_items write ≡ (path_text write.path, shown) ∷ [] =
    elim is [
      | inl e ↦ ap (edited_item (path_text write.path)) e ∙ ap (λ (n : List ℕ). (path_text write.path, n) ∷ []) (sym same)
      | inr e ↦ ap (edited_item (path_text write.path)) e ∙ ap (λ (n : List ℕ). (path_text write.path, n) ∷ []) (sym same)
    ] in
    subst (λ (l : Items). HasLines text (text_behind before l) (extents_after before l)) (sym items) has

-- whether the first of some extents opens a block after the one path as after the other
pub first_opens : (before now : List ℕ) (extents : List Extent) (e : Extent) → slice_get extents 0 ≡ Some e → opens_block before (path_text e.path) ≡ opens_block now (path_text e.path) → OpensTheSame before now (map extent_in extents)
first_opens before now [] e is same = tt
first_opens before now (x ∷ extents) e is same = let first : x ≡ e = cc in subst (λ (y : Extent). opens_block before (path_text y.path) ≡ opens_block now (path_text y.path)) (sym first) same

pub none_opens : (before now : List ℕ) (extents : List Extent) → slice_get extents 0 ≡ None → OpensTheSame before now (map extent_in extents)
none_opens before now [] is = tt
none_opens before now (x ∷ extents) is = absurd (let no : ⊥ = cc in no)

pub same_bools : (a b : Bool) → beq a b ≡ true → a ≡ b
same_bools true true is = refl
same_bools false false is = refl
same_bools true false is = absurd (false≢true is)
same_bools false true is = absurd (false≢true is)

lines_there : (extents : List Extent) (n : ℕ) → n ≡ length extents → not (n == 0) ≡ has_lines extents
lines_there [] n is = ap (λ k. not (k == 0)) is
lines_there (e ∷ extents) n is =
    let more : n ≡ length extents + 1 = is ∙ sym (add-one (length extents)) in
    let some : (n == 0) ≡ false = grind (arith, nat_tests) in
    ap not some

-- the extents behind a place, as they are cut out
pub opens_kept : (place : TextPlace) (path : Path) (extents new shown : List Extent) (was now : Option Path) (n : ℕ) → was ≡ path_before place path place.there → now ≡ path_before place path (not (n == 0)) → n ≡ length new → shown ≡ extents
    → OpensTheSame (text_or_none was) (text_or_none now) (map extent_in (take (length shown - place.after) (drop place.after shown))) → OpensTheSame (text_or_none (path_before place path place.there)) (text_or_none (path_before place path (has_lines new))) (map extent_in (drop place.after extents))
opens_kept place path extents new shown was now n earlier later many same opens =
    let rest : take (length shown - place.after) (drop place.after shown) ≡ drop place.after shown = ap (λ k. take k (drop place.after shown)) (sym (length-drop place.after shown)) ∙ take-length (drop place.after shown) in
    subst (λ (l : List Extent). OpensTheSame (text_or_none (path_before place path place.there)) (text_or_none (path_before place path (has_lines new))) (map extent_in (drop place.after l))) same
    (subst (λ (l : List Extent). OpensTheSame (text_or_none (path_before place path place.there)) (text_or_none (path_before place path (has_lines new))) (map extent_in l)) rest
    (subst (λ (b : Bool). OpensTheSame (text_or_none (path_before place path place.there)) (text_or_none (path_before place path b)) (map extent_in (take (length shown - place.after) (drop place.after shown)))) (lines_there new n many)
    (subst (λ (o : Option Path). OpensTheSame (text_or_none (path_before place path place.there)) (text_or_none o) (map extent_in (take (length shown - place.after) (drop place.after shown)))) later
    (subst (λ (o : Option Path). OpensTheSame (text_or_none o) (text_or_none now) (map extent_in (take (length shown - place.after) (drop place.after shown)))) earlier opens))))

module _ (old new : KeptText) (place : TextPlace) (write : Write) (lines : GrowingText) (items : Items) (sorted : is_sorted text_cmp items ≡ true) (kept : IsKeptText old items) (at : IsPlace place (map extent_in old.extents.items) (path_text write.path))
    (has : HasLines lines (text_behind (text_or_none place.before) (new_items write)) (extents_after (text_or_none place.before) (new_items write))) (puts : PutsLines old new place write.path lines) where
  abbrev key : List ℕ
  key = path_text write.path

  abbrev front : Items
  front = take place.index items

  abbrev rest : Items
  rest = drop place.after items

  abbrev put_items : Items
  put_items = new_items write

  -- the path before the place, and that before what is behind it
  abbrev before : List ℕ
  before = last_path [] front

  abbrev behind : List ℕ
  behind = last_path [] (take place.after items)

  here : IsPlace place (extents_after [] items) key
  here = subst (λ (l : Extents). IsPlace place l key) kept.extents at

  parts : edited key write.edit items ≡ front ++ (put_items ++ rest)
  parts = edited_parts key write.edit place.there place.index place.after items sorted here.after here.below here.stands

  place_before : text_or_none place.before ≡ before
  place_before = here.before ∙ ap (last_extent []) (take_extents [] place.index items) ∙ last_after [] front

  was : text_or_none (path_before place write.path place.there) ≡ behind
  was = last_was place.there write.path place.before ∙ ap (λ (l : List ℕ). if place.there then key else l) place_before ∙ sym (last_there place.there place.index place.after key items here.after here.stands)

  now : text_or_none (path_before place write.path (has_lines lines.extents.items)) ≡ last_path before put_items
  now = last_now write.path write.edit place.before lines.extents.items has.extents_are ∙ ap (λ (l : List ℕ). last_path l put_items) place_before

  extents_rest : map extent_in (drop place.after old.extents.items) ≡ extents_after behind rest
  extents_rest = sym (drop-map extent_in place.after old.extents.items) ∙ ap (drop place.after) kept.extents ∙ drop_extents [] place.after items

  opens : OpensTheSame behind (last_path before put_items) (extents_after behind rest)
  opens = subst (λ (l : Extents). OpensTheSame behind (last_path before put_items) l) extents_rest
      (subst (λ (l : List ℕ). OpensTheSame l (last_path before put_items) (map extent_in (drop place.after old.extents.items))) was
      (subst (λ (l : List ℕ). OpensTheSame (text_or_none (path_before place write.path place.there)) l (map extent_in (drop place.after old.extents.items))) now puts.opens))

  bytes_front : take place.start old.bytes.items ≡ text_of_items front
  bytes_front = ap (take place.start) kept.text ∙ text_before items place.index place.start here.start

  bytes_rest : drop place.end old.bytes.items ≡ text_behind (last_path before put_items) rest
  bytes_rest = ap (drop place.end) kept.text ∙ text_after items place.after place.end here.end ∙ text_follows behind (last_path before put_items) rest opens

  bytes_new : lines.buffer.taken.items ≡ text_behind before put_items
  bytes_new = has.bytes_are ∙ ap (λ (l : List ℕ). text_behind l put_items) place_before

  extents_front : map extent_in (take place.index old.extents.items) ≡ extents_after [] front
  extents_front = sym (take-map extent_in place.index old.extents.items) ∙ ap (take place.index) kept.extents ∙ take_extents [] place.index items

  extents_new : map extent_in lines.extents.items ≡ extents_after before put_items
  extents_new = has.extents_are ∙ ap (λ (l : List ℕ). extents_after l put_items) place_before

  -- the text is that of the items after the edit
  pub renewed : IsKeptText new (edited key write.edit items)
  renewed = record {
    text = puts.bytes ∙ (λ i. bytes_front i ++ (bytes_new i ++ bytes_rest i))
        ∙ ap (λ (l : List ℕ). text_of_items front ++ l) (sym (text_joined before put_items rest)) ∙ sym (text_parts front (put_items ++ rest)) ∙ ap text_of_items (sym parts);
    extents = ap (map extent_in) puts.extents ∙ map-append extent_in (take place.index old.extents.items) (lines.extents.items ++ drop place.after old.extents.items)
        ∙ ap (λ (l : Extents). map extent_in (take place.index old.extents.items) ++ l) (map-append extent_in lines.extents.items (drop place.after old.extents.items))
        ∙ (λ i. extents_front i ++ (extents_new i ++ (extents_rest ∙ extents_follow behind (last_path before put_items) rest opens) i))
        ∙ ap (λ (l : Extents). extents_after [] front ++ l) (sym (extents_joined before put_items rest)) ∙ sym (extents_joined [] front (put_items ++ rest)) ∙ ap (extents_after []) (sym parts);
  }

-- a decision that writes an item leaves the text of the items with it
pub decided_text : (text : Option KeptText) (effect : Effect) (number : ℕ) (state : State) (w : Option Write) (one : Write) → effect ≡ Decided number state w → w ≡ Some one → (n : ℕ) (v : Views) → HoldsText text (edited (path_text one.path) one.edit v.items) → HoldsText text (affected n effect v).items
decided_text text effect number state w one is there n v holds =
    subst (λ (e : Effect). HoldsText text (affected n e v).items) (sym (is ∙ ap (λ (o : Option Write). Decided number state o) there)) holds
