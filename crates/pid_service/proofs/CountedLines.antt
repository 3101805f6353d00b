-- What a sink that adds up lengths has counted of items, and how long their text may be.
use Rattle.std.proofs.Common.{◌≡◌, ℕ, ◌+◌, ◌*◌, ◌<◌, ◌≤◌, ◌^◌, Bool, true, false, List, [], ◌∷◌, ◌++◌, length, map, Option, Some, None, IfSome, reverse, refl, sym, ap, subst, ◌∙◌, append_assoc, append-nil, arith, length-append, length-take}
use Rattle.std.specs.Prelude.{if◌then◌else◌, codes, take, drop, Vec}
use Rattle.std.specs.declared.alloc.Global.{Global}
use Rattle.std.proofs.lemmas.Bool.Decides.{nat_tests}
use Rattle.std.proofs.Math.Nat.{min-le_left}
use Rattle.std.proofs.lemmas.List.{map-append, reverse-append, reverse-reverse}
use Rattle.pid_file.proofs.Written.{ended-append}
use Rattle.pid_service.proofs.Words.{AllItems, block_after, block_line, Class, Device, ended, Extent, extent_in, Extents, extents_after, Generic, GrowingText, HasLines, header, HoldsText, is_name, IsItem, item_in, item_line, Items, KeptText, label, label_of, Lengthens, Numbered, opens_block, Path, placed_from, ProgIf, Subclass, Subsystem, TakesItem, text_behind, text_of_items, text_or_none, TextSink, Took, Vendor}
use Rattle.pid_service.proofs.Labelled.{label_of_text}
use Rattle.pid_ident.specs.PathTexts.{path_text}
use Rattle.pid_service.proofs.ItemLines.{extents_joined, last_joined, last_path, text_first, text_joined}
use Rattle.pid_service.proofs.WalkEnds.{placed_items}
use Rattle.pid_service.proofs.RenewedTexts.{headed}

-- these items are counted
pub record HasCounted (s : TextSink) (items : Items) (t : TextSink) : Type 0 where
  pub last : text_or_none t.before ≡ last_path (text_or_none s.before) items
  pub counted : s.bytes + length (text_behind (text_or_none s.before) items) < 2 ^ 64 → t.bytes ≡ s.bytes + length (text_behind (text_or_none s.before) items)
  pub text : Lengthens s.text t.text (text_or_none s.before) items

-- what is kept is the same
none_more : (text : Option GrowingText) (before : List ℕ) → Lengthens text text before []
none_more None before = tt
none_more (Some text) before = (text, refl, λ bytes extents has. record { bytes_are = has.bytes_are ∙ sym (append-nil bytes); extents_are = has.extents_are ∙ sym (append-nil extents) })

-- the lines of some items, and then those of others
then_more : (old between new : Option GrowingText) (before : List ℕ) (xs ys : Items) → Lengthens old between before xs → Lengthens between new (last_path before xs) ys → Lengthens old new before (xs ++ ys)
then_more old between None before xs ys one other = tt
then_more old between (Some now) before xs ys one other =
    let (mid, there, more) = other in
    let (was, start, first) = subst (λ (b : Option GrowingText). Lengthens old b before xs) there one in (
      was,
      start,
      λ bytes extents has.
          let all = more _ _ (first bytes extents has) in
          record {
            bytes_are = all.bytes_are ∙ append_assoc bytes (text_behind before xs) (text_behind (last_path before xs) ys) ∙ ap (λ (l : List ℕ). bytes ++ l) (sym (text_joined before xs ys));
            extents_are = all.extents_are ∙ append_assoc extents (extents_after before xs) (extents_after (last_path before xs) ys) ∙ ap (λ (l : Extents). extents ++ l) (sym (extents_joined before xs ys));
          },
    )

abbrev lines_of_entry : TextSink → Numbered → List ℕ
lines_of_entry s entry = text_behind (text_or_none s.before) (item_in entry ∷ [])

one_more : (old between new : TextSink) (items : Items) (entry : Numbered) → HasCounted old items between → TakesItem between entry new → HasCounted old (items ++ item_in entry ∷ []) new
one_more old between new items entry h step =
    let before = text_or_none old.before in
    let line = item_in entry ∷ [] in
    let whole : length (text_behind before (items ++ line)) ≡ length (text_behind before items) + length (text_behind (last_path before items) line) =
    ap length (text_joined before items line) ∙ length-append (text_behind before items) (text_behind (last_path before items) line) in
    let lines : lines_of_entry between entry ≡ text_behind (last_path before items) line = ap (λ (b : List ℕ). text_behind b line) h.last in
    let here : length (lines_of_entry between entry) ≡ length (text_behind (last_path before items) line) = ap length lines in
    record {
      last = step.before ∙ sym (last_joined before items (item_in entry));
      counted = λ fits.
          let so_far : between.bytes ≡ old.bytes + length (text_behind before items) = h.counted (omega (arith, whole, fits)) in
          let more : new.bytes ≡ between.bytes + length (lines_of_entry between entry) = step.counted (omega (arith, whole, here, so_far, fits)) in
          omega (arith, whole, here, so_far, more);
      text = then_more old.text between.text new.text before items line h.text (subst (λ (b : List ℕ). Lengthens between.text new.text b line) h.last step.text);
    }

-- the last entry is the first here
took_counted : (old new : TextSink) (es : List Numbered) → Took TakesItem old es new → HasCounted old (map item_in (reverse es)) new
took_counted old new [] took = subst (HasCounted old []) (sym took) (record { last = refl; counted = λ fits. omega arith; text = none_more old.text (text_or_none old.before) })
took_counted old new (e ∷ es) (between, took, step) =
    let back : map item_in (reverse (e ∷ es)) ≡ map item_in (reverse es) ++ item_in e ∷ [] = ap (map item_in) (reverse-append (e ∷ []) es) ∙ map-append item_in (reverse es) (e ∷ []) in
    subst (λ (items : Items). HasCounted old items new) (sym back) (one_more old between new (map item_in (reverse es)) e (took_counted old between es took) step)

-- the lines of one item

line_long : (label space name : List ℕ) → length space ≡ 2 → length ((label ++ space ++ name) ++ 10 ∷ []) ≡ length label + length name + 3
line_long label space name two = omega (arith, two, length-append {A = ℕ})

pub added_up : (block : List (List ℕ)) (label name : List ℕ) (b l n : ℕ) → b ≡ length (ended block) → l ≡ length label → n ≡ length name → b + l + n + 3 ≡ length (ended (block ++ (label ++ codes "  " ++ name) ∷ []))
added_up block label name b l n blocks labels names =
    let line = (label ++ codes "  " ++ name) ∷ [] in
    let whole : length (ended (block ++ line)) ≡ length (ended block) + length (ended line) = ap length (ended-append block line) ∙ length-append (ended block) (ended line) in
    let long : length (ended line) ≡ length label + length name + 3 = line_long label (codes "  ") name refl in
    omega (arith, whole, long, blocks, labels, names)

-- a text is not long

label_length : (path : Path) → length (label path) ≤ 11
label_length (Vendor v) = omega arith
label_length (Device v d) = omega arith
label_length (Subsystem v d s e) = omega arith
label_length (Class c) = omega arith
label_length (Subclass c s) = omega arith
label_length (ProgIf c s p) = omega arith
label_length (Generic v d) = omega arith

name_length : (name : List ℕ) → is_name name ≡ true → length name ≤ 1000
name_length name h = grind (arith, nat_tests)

two_long : (l : List ℕ) → length l ≡ 2 → length l ≤ 2
two_long l two = omega arith

labelled : (before space name : List ℕ) → length before ≤ 11 → length space ≤ 2 → length name ≤ 1000 → length (before ++ space ++ name) ≤ 1013
labelled before space name few two short = omega (arith, few, two, short, length-append {A = ℕ})

line_length : (path name : List ℕ) → IsItem path name → length (item_line (path, name)) ≤ 1013
line_length path name ((p, is), named) =
    labelled (label_of path) (codes "  ") name
    (subst (λ (text : List ℕ). length (label_of text) ≤ 11) (sym is.same) (subst (λ (l : List ℕ). length l ≤ 11) (sym (label_of_text p)) (label_length p)))
    (two_long (codes "  ") refl)
    (name_length name named)

first_four : (l : List ℕ) → length (take 4 l) ≤ 4
first_four l = subst (λ n. n ≤ 4) (sym (length-take 4 l)) (min-le_left 4 (length l))

opened : (front digits : List ℕ) → length front ≤ 2 → length digits ≤ 4 → length (front ++ digits) ≤ 6
opened front digits two few = omega (arith, two, few, length-append {A = ℕ})

ended_block : (block : List ℕ) (b : Bool) → length block ≤ 6 → length (ended (if b then block ∷ [] else [])) ≤ 7
ended_block block true few = omega (arith, few, length-append {A = ℕ})
ended_block block false few = omega arith

-- so what comes before a name fits
pub block_short : (n : ℕ) (before path : List ℕ) → n ≡ length (ended (block_after before path)) → n ≤ 7
block_short n before path is =
    subst (λ k. k ≤ 7) (sym is) (ended_block (block_line path) (opens_block before path) (opened (codes "S ") (take 4 (drop 3 path)) (two_long (codes "S ") refl) (first_four (drop 3 path))))

pub label_short : (n : ℕ) (p : Path) → n ≡ length (label_of (path_text p)) → n ≤ 11
label_short n p is = subst (λ k. k ≤ 11) (sym is) (subst (λ (l : List ℕ). length l ≤ 11) (sym (label_of_text p)) (label_length p))

ended_lines : (block line : List ℕ) (b : Bool) → length block ≤ 6 → length line ≤ 1013 → length (ended ((if b then block ∷ [] else []) ++ line ∷ [])) ≤ 1021
ended_lines block line true few short = omega (arith, few, short, length-append {A = ℕ})
ended_lines block line false few short = omega (arith, short, length-append {A = ℕ})

lines_length : (before path name : List ℕ) → IsItem path name → length (text_behind before ((path, name) ∷ [])) ≤ 1021
lines_length before path name item = ended_lines (block_line path) (item_line (path, name)) (opens_block before path) (opened (codes "S ") (take 4 (drop 3 path)) (two_long (codes "S ") refl) (first_four (drop 3 path))) (line_length path name item)

text_length : (before : List ℕ) (items : Items) → AllItems items → length (text_behind before items) ≤ 1021 * length items
text_length before [] all = omega arith
text_length before (item ∷ items) (first, all) =
    let one = lines_length before item.0 item.1 first in
    let more = text_length item.0 items all in
    let whole : length (text_behind before (item ∷ items)) ≡ length (text_behind before (item ∷ [])) + length (text_behind item.0 items) =
    ap length (text_first before item items) ∙ length-append (text_behind before (item ∷ [])) (text_behind item.0 items) in
    omega (arith, one, more, whole)

fits : (start first text items : ℕ) → start ≡ 18 → first ≡ text → text ≤ 1021 * items → items < 2 ^ 32 → start + first < 2 ^ 64
fits start first text items is same short few = omega arith

summed : (bytes start first text whole : ℕ) → start ≡ 18 → first ≡ text → bytes ≡ start + first → whole ≡ 18 + text → bytes ≡ whole
summed bytes start first text whole is same sum all = omega arith

-- a walk over all items
all_taken : (old new : TextSink) (items : Items) → Took TakesItem old (reverse (placed_from 1 items)) new → HasCounted old items new
all_taken old new items took =
    let same : map item_in (reverse (reverse (placed_from 1 items))) ≡ items = ap (map item_in) (reverse-reverse (placed_from 1 items)) ∙ placed_items 1 items in
    subst (λ (is : Items). HasCounted old is new) same (took_counted old new (reverse (placed_from 1 items)) took)

-- it has counted their text behind the header
pub all_counted : (old new : TextSink) (items : Items) → old.before ≡ None → old.bytes ≡ 18 → Took TakesItem old (reverse (placed_from 1 items)) new → AllItems items → length items < 2 ^ 32
    → new.bytes ≡ length (text_of_items items)
all_counted old new items first start took all few =
    let text : length (text_behind (text_or_none old.before) items) ≡ length (text_behind [] items) = ap (λ (b : Option Path). length (text_behind (text_or_none b) items)) first in
    summed _ _ _ _ _ start text ((all_taken old new items took).counted (fits _ _ _ _ start text (text_length [] items all) few)) (headed header (text_behind [] items) refl)

-- and what it keeps is their text, if the header was kept before
pub all_kept : (old new : TextSink) (items : Items) (text : Option KeptText) → old.before ≡ None → IfSome old.text (λ t. HasLines t (ended (header ∷ [])) []) → Took TakesItem old (reverse (placed_from 1 items)) new
    → IfSome text (λ kept. (grown : GrowingText) × (new.text ≡ Some grown) × (kept.bytes ≡ grown.buffer.taken) × (kept.extents ≡ grown.extents)) → HoldsText text items
all_kept old new items None first start took same = tt
all_kept old new items (Some kept) first start took (grown, is, bytes, extents) =
    let (was, there, more) = subst (λ (t : Option GrowingText). Lengthens old.text t (text_or_none old.before) items) is (all_taken old new items took).text in
    let begun = subst (λ (t : Option GrowingText). IfSome t (λ t. HasLines t (ended (header ∷ [])) [])) there start in
    let all = more (ended (header ∷ [])) [] begun in
    record {
      text = ap (λ (v : Vec ℕ Global). v.items) bytes ∙ all.bytes_are ∙ ap (λ (b : Option Path). ended (header ∷ []) ++ text_behind (text_or_none b) items) first;
      extents = ap (λ (v : Vec Extent Global). map extent_in v.items) extents ∙ all.extents_are ∙ ap (λ (b : Option Path). extents_after (text_or_none b) items) first;
    }
