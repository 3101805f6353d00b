-- The names of items in their text, and the items below a path.
use Rattle.std.proofs.Common.{◌≡◌, ℕ, zero, suc, ◌+◌, ◌-◌, ◌<◌, ◌≤◌, Bool, true, false, cond, List, [], ◌∷◌, ◌++◌, length, map, take, drop, get_or, Option, refl, sym, ap, ◌∙◌, append_assoc, arith, length-append}
use Rattle.std.specs.Prelude.{codes, filter}
use Rattle.std.proofs.Math.Seq.{drop-append-add, drop-cons}
use Rattle.std.proofs.lemmas.List.{append-nil, drop-map, length-map, take_all}
use Rattle.std.proofs.lemmas.List.Elements.{filter-append}
use Rattle.pid_file.proofs.Written.{ended-append}
use Rattle.pid_file.specs.PathTexts.{path_text}
use Rattle.pid_service.proofs.Words.{before_name, block_after, bytes_in, ended, Extent, extent_in, Extents, extents_after, Item, item_line, Items, label_of, last_extent, pair_of, Path, text_behind, text_of_items, text_or_none}
use Rattle.pid_service.proofs.ItemLines.{last_path, text_first}
use Rattle.pid_service.proofs.RenewedTexts.{cut_there, cut_whole, drop_extents, last_after, take_extents, take_front, drop_front}

-- ---- the name in the lines of an item

lines_parts : (before : List ℕ) (item : List ℕ × List ℕ) → text_behind before (item ∷ []) ≡ before_name before item.0 ++ (item.1 ++ 10 ∷ [])
lines_parts before item =
    let block = ended (block_after before item.0) in
    let label = label_of item.0 ++ codes "  " in
    ended-append (block_after before item.0) (item_line item ∷ []) ∙ ap (λ (l : List ℕ). block ++ l) (append_assoc label item.1 (10 ∷ [])) ∙ sym (append_assoc block label (item.1 ++ 10 ∷ []))

long_as : (start skip name first end lines : ℕ) → first ≡ start + skip → lines ≡ skip + (name + 1) → end ≡ start + lines → end - 1 - first ≡ name
long_as start skip name first end lines a b c = omega arith

-- in the text of all items
module _ (items : Items) (i : ℕ) (item : List ℕ × List ℕ) (more : Items) (next : drop i items ≡ item ∷ more) (start : ℕ) (is : start ≡ 18 + bytes_in (take i (extents_after [] items))) where
  abbrev preceding : List ℕ
  preceding = last_path [] (take i items)

  abbrev ahead : List ℕ
  ahead = before_name preceding item.0

  from_here : text_behind preceding (drop i items) ≡ ahead ++ (item.1 ++ 10 ∷ text_behind item.0 more)
  from_here = ap (text_behind preceding) next ∙ text_first preceding item more ∙ ap (λ (l : List ℕ). l ++ text_behind item.0 more) (lines_parts preceding item)
      ∙ append_assoc ahead (item.1 ++ 10 ∷ []) (text_behind item.0 more) ∙ ap (λ (l : List ℕ). ahead ++ l) (append_assoc item.1 (10 ∷ []) (text_behind item.0 more))

  pub name_there : (skip first end : ℕ) → skip ≡ length ahead → first ≡ start + skip → end ≡ start + length (text_behind preceding (item ∷ [])) → take (end - 1 - first) (drop first (text_of_items items)) ≡ item.1
  name_there skip first end long at ends =
      let lines : length (text_behind preceding (item ∷ [])) ≡ skip + (length item.1 + 1) =
      ap length (lines_parts preceding item) ∙ length-append ahead (item.1 ++ 10 ∷ []) ∙ (λ i. sym long i + length-append item.1 (10 ∷ []) i) in
      let far : first ≡ length (text_of_items (take i items)) + skip = at ∙ ap (λ n. n + skip) (cut_there items i start is) in
      ap (take (end - 1 - first)) (ap (drop first) (cut_whole items i start is) ∙ ap (λ n. drop n (text_of_items (take i items) ++ text_behind preceding (drop i items))) far ∙ drop-append-add (text_of_items (take i items)) (text_behind preceding (drop i items)) skip ∙ ap (drop skip) from_here ∙ drop_front ahead (item.1 ++ 10 ∷ text_behind item.0 more) skip long)
      ∙ take_front item.1 (10 ∷ text_behind item.0 more) (end - 1 - first) (long_as start skip (length item.1) first end (length (text_behind preceding (item ∷ []))) at lines ends)

-- ---- one item more

take_next : (n : ℕ) (xs : Items) (x : List ℕ × List ℕ) (more : Items) → drop n xs ≡ x ∷ more → take (n + 1) xs ≡ take n xs ++ x ∷ []
take_next zero [] x more is = absurd (let no : ⊥ = cc in no)
take_next zero (y ∷ xs) x more is = let same : y ≡ x = cc in ap (λ (z : List ℕ × List ℕ). z ∷ []) same
take_next (suc n) [] x more is = absurd (let no : ⊥ = cc in no)
take_next (suc n) (y ∷ xs) x more is =
    let one : suc n + 1 ≡ suc (n + 1) = omega arith in
    ap (λ k. take k (y ∷ xs)) one ∙ ap (λ (l : Items). y ∷ l) (take_next n xs x more is)

length_after : (before : List ℕ) (items : Items) → length (extents_after before items) ≡ length items
length_after before [] = refl
length_after before (item ∷ items) = ap suc (length_after item.0 items)

first_extent : (before : List ℕ) (rest : Items) (e : List ℕ × ℕ) (l : Extents) → extents_after before rest ≡ e ∷ l → (item : List ℕ × List ℕ) × (more : Items) × (rest ≡ item ∷ more) × (item.0 ≡ e.0) × (length (text_behind before (item ∷ [])) ≡ e.1)
first_extent before [] e l is = absurd (let no : ⊥ = cc in no)
first_extent before (item ∷ more) e l is =
    let f : Extents → List ℕ × ℕ = λ xs. elim xs as (λ _. List ℕ × ℕ) [ [] ↦ e | ◌∷◌ x ys ↦ x ] in
    let same : (item.0, length (text_behind before (item ∷ []))) ≡ e = ap f is in
    (item, more, refl, ap (λ (p : List ℕ × ℕ). p.0) same, ap (λ (p : List ℕ × ℕ). p.1) same)

-- extents of items, of which some are found below a path
module _ (bytes : List ℕ) (extents : List Extent) (items : Items) (text : bytes ≡ text_of_items items) (are : map extent_in extents ≡ extents_after [] items) where
  all_extents : length items ≡ length extents
  all_extents = sym (length_after [] items) ∙ ap length (sym are) ∙ length-map extents extent_in

  -- all of them
  pub all_taken : (i : ℕ) → length extents ≤ i → take i items ≡ items
  all_taken i all = take_all i items (omega (arith, all_extents, all))

  module _ (i : ℕ) (d : Extent) (low : i < length extents) (above : List ℕ → Bool) (found : List Item) (so : map pair_of found ≡ filter (λ e. above e.0) (take i items)) where
    abbrev one : Extent
    one = get_or extents i d

    here : extents_after (last_path [] (take i items)) (drop i items) ≡ extent_in one ∷ map extent_in (drop (suc i) extents)
    here = sym (drop_extents [] i items) ∙ ap (drop i) (sym are) ∙ drop-map extent_in i extents ∙ ap (map extent_in) (drop-cons extents i d low)

    -- an item that is not below it
    pub none_more : above (path_text one.path) ≡ false → map pair_of found ≡ filter (λ e. above e.0) (take (i + 1) items)
    none_more off =
        let (item, more, next, path, long) = first_extent (last_path [] (take i items)) (drop i items) (extent_in one) (map extent_in (drop (suc i) extents)) here in
        let tested : above item.0 ≡ false = ap above path ∙ off in
        so ∙ sym (ap (filter (λ e. above e.0)) (take_next i items item more next) ∙ filter-append (λ e. above e.0) (take i items) (item ∷ []) ∙ ap (λ b. filter (λ e. above e.0) (take i items) ++ cond b (item ∷ []) []) tested ∙ append-nil (filter (λ e. above e.0) (take i items)))

    -- and one that is, with its name
    pub one_more : above (path_text one.path) ≡ true → (start skip first end : ℕ) (last : Option Path) (now : List Item) → start ≡ 18 + bytes_in (take i (map extent_in extents)) → text_or_none last ≡ last_extent [] (take i (map extent_in extents))
        → skip ≡ length (before_name (text_or_none last) (path_text one.path)) → first ≡ start + skip → end ≡ start + one.length
        → map pair_of now ≡ map pair_of found ++ (path_text one.path, take (end - 1 - first) (drop first bytes)) ∷ [] → map pair_of now ≡ filter (λ e. above e.0) (take (i + 1) items)
    one_more on start skip first end last now is was long at ends adds =
        let (item, more, next, path, lines) = first_extent (last_path [] (take i items)) (drop i items) (extent_in one) (map extent_in (drop (suc i) extents)) here in
        let tested : above item.0 ≡ true = ap above path ∙ on in
        let before : text_or_none last ≡ last_path [] (take i items) = was ∙ ap (λ (l : Extents). last_extent [] (take i l)) are ∙ ap (last_extent []) (take_extents [] i items) ∙ last_after [] (take i items) in
        let skipped : skip ≡ length (before_name (last_path [] (take i items)) item.0) = long ∙ (λ j. length (before_name (before j) (sym path j))) in
        let name : take (end - 1 - first) (drop first bytes) ≡ item.1 =
        ap (λ (l : List ℕ). take (end - 1 - first) (drop first l)) text ∙ name_there items i item more next start (is ∙ ap (λ (l : Extents). 18 + bytes_in (take i l)) are) skip first end skipped at (ends ∙ ap (λ n. start + n) (sym lines)) in
        adds ∙ (λ j. so j ++ (sym path j, name j) ∷ [])
        ∙ sym (ap (filter (λ e. above e.0)) (take_next i items item more next) ∙ filter-append (λ e. above e.0) (take i items) (item ∷ []) ∙ ap (λ b. filter (λ e. above e.0) (take i items) ++ cond b (item ∷ []) []) tested)
