-- The items that were changed last, while a registry keeps them.
use Rattle.std.proofs.Common.{◌≡◌, ℕ, ◌+◌, ◌<◌, ◌≤◌, Bool, true, false, cond, IfSome, List, [], ◌∷◌, ◌++◌, length, map, take, filter, get_or, Option, Some, None, arith, refl, sym, ap, subst, ◌∙◌}
use Rattle.std.specs.Prelude.{◌&&◌, is_some, nat_lt, Vec}
use Rattle.std.specs.declared.alloc.Global.{Global}
use Rattle.std.specs.Ordering.{is_lt}
use Rattle.std.proofs.lemmas.Bool.Decides.{nat_tests}
use Rattle.std.proofs.lemmas.List.{length-map, map-append, take_all, take_more}
use Rattle.std.proofs.lemmas.List.Elements.{filter-append}
use Rattle.pid_file.specs.PathTexts.{path_text}
use Rattle.pid_file.specs.Trees.{text_cmp}
use Rattle.pid_moderation.specs.ChangePages.{Changed}
use Rattle.pid_moderation.proofs.Changing.{not_anew}
use Rattle.pid_service.proofs.Words.{affected, AreChanged, changed_after, changed_of, ChangedItem, Class, comes_after, Decided, Device, Effect, Generic, HoldsChanges, is_later, Items, keeping, KeptChanges, name_at, numbered_in, PAGE, Path, ProgIf, Receipt, Subclass, Subsystem, Vendor, Views}
use Rattle.pid_service.proofs.PendingNumbers.{take_short}
use Rattle.pid_reader.proofs.Written.{both_true}
use Rattle.pid_moderation.specs.declared.change.Write.{Write}
use Rattle.pid_moderation.specs.declared.facts.State.{State}

-- ---- what a change leaves

-- a receipt changes no number
pub kept_since : (r : Option Receipt) (v : Views) → (keeping r v).since ≡ v.since
kept_since None v = refl
kept_since (Some r) v = refl

-- they are the same over the same items with the same numbers
pub same_changes : (changes : Option KeptChanges) (v w : Views) → w.items ≡ v.items → w.since ≡ v.since → HoldsChanges changes v → HoldsChanges changes w
same_changes None v w items since holds = tt
same_changes (Some kept) v w items since holds = record {
  items = holds.items ∙ sym (λ i. map (λ (item : List ℕ × List ℕ). record { path = item.0; name = item.1; since = since i item.0 }) (filter (λ (item : List ℕ × List ℕ). is_lt (text_cmp [] item.0) && nat_lt kept.since (since i item.0)) (items i)));
  few = holds.few;
}

-- a decision that writes no item leaves the numbers
pub undecided_numbers : (effect : Effect) (number : ℕ) (state : State) (w : Option Write) → effect ≡ Decided number state w → is_some w ≡ false → (n : ℕ) (v : Views) → (affected n effect v).since ≡ v.since
undecided_numbers effect number state None is none n v =
    subst (λ (e : Effect). (affected n e v).since ≡ v.since) (sym is) (λ i path. cond (not_anew (name_at path v.items) i) n (v.since path))
undecided_numbers effect number state (Some w) is none n v = absurd (let bad : true ≡ false = none in let no : ⊥ = cc in no)

-- ---- paths after a text

-- each comes after the empty one
pub after_nothing : (path : Path) → is_lt (text_cmp [] (path_text path)) ≡ true
after_nothing (Vendor v) = refl
after_nothing (Device v d) = refl
after_nothing (Subsystem v d sv sd) = refl
after_nothing (Generic v d) = refl
after_nothing (Class c) = refl
after_nothing (Subclass c s) = refl
after_nothing (ProgIf c s p) = refl

-- what comes after some text comes after the empty one
after_any : (after text : List ℕ) → is_lt (text_cmp after text) ≡ true → is_lt (text_cmp [] text) ≡ true
after_any [] [] is = is
after_any (a ∷ after) [] is = absurd (let bad : false ≡ true = is in let no : ⊥ = cc in no)
after_any after (b ∷ text) is = refl

above_less : (low since n : ℕ) → low ≤ since → nat_lt since n ≡ true → nat_lt low n ≡ true
above_less low since n less is = grind (arith, nat_tests)

pub both : (a b : Bool) → a ≡ true → b ≡ true → (a && b) ≡ true
both true true one two = refl
both true false one two = two
both false b one two = one

-- what is later than a number and a text is later than a lesser number
later_too : (low since : ℕ) (after : List ℕ) (v : Views) (item : List ℕ × List ℕ) → low ≤ since → is_later since after v item ≡ true → is_later low [] v item ≡ true
later_too low since after v item less is =
    let parts = both_true (is_lt (text_cmp after item.0)) (nat_lt since (v.since item.0)) is in
    both _ _ (after_any after item.0 parts.0) (above_less low since (v.since item.0) less parts.1)

-- ---- a page of what is kept

-- of those that are later than a number those that are later than a greater one
pub later_among : (low since : ℕ) (after : List ℕ) (v : Views) (items : Items) → low ≤ since → filter (comes_after since after) (map (numbered_in v) (filter (is_later low [] v) items)) ≡ map (numbered_in v) (filter (is_later since after v) items)
later_among low since after v [] less = refl
later_among low since after v (item ∷ items) less = by_tests (is_later low [] v item) (is_later since after v item) refl refl (later_among low since after v items less)
  where
    by_tests : (a b : Bool) → is_later low [] v item ≡ a → is_later since after v item ≡ b → filter (comes_after since after) (map (numbered_in v) (filter (is_later low [] v) items)) ≡ map (numbered_in v) (filter (is_later since after v) items)
        → filter (comes_after since after) (map (numbered_in v) (cond a (item ∷ filter (is_later low [] v) items) (filter (is_later low [] v) items))) ≡ map (numbered_in v) (cond b (item ∷ filter (is_later since after v) items) (filter (is_later since after v) items))
    by_tests true true wide is rest =
        ap (λ t. cond t (numbered_in v item ∷ filter (comes_after since after) (map (numbered_in v) (filter (is_later low [] v) items))) (filter (comes_after since after) (map (numbered_in v) (filter (is_later low [] v) items)))) is
        ∙ ap (λ l. numbered_in v item ∷ l) rest
    by_tests true false wide is rest =
        ap (λ t. cond t (numbered_in v item ∷ filter (comes_after since after) (map (numbered_in v) (filter (is_later low [] v) items))) (filter (comes_after since after) (map (numbered_in v) (filter (is_later low [] v) items)))) is
        ∙ rest
    by_tests false false wide is rest = rest
    by_tests false true wide is rest = absurd (let bad : false ≡ true = sym wide ∙ later_too low since after v item less is in let no : ⊥ = cc in no)

filter_shorter : {X : Type 0} (p : X → Bool) (xs : List X) → length (filter p xs) ≤ length xs
filter_shorter p [] = omega arith
filter_shorter p (x ∷ xs) = by_test (p x) (filter_shorter p xs)
  where
    by_test : (b : Bool) → length (filter p xs) ≤ length xs → length (cond b (x ∷ filter p xs) (filter p xs)) ≤ length (x ∷ xs)
    by_test true less = omega (arith, less)
    by_test false less = omega (arith, less)

-- copies of those that belong to a page are the page
pub page_kept : (kept : KeptChanges) (v : Views) (since : ℕ) (after : List ℕ) (page : Option (Vec ChangedItem Global)) → AreChanged kept v → kept.since ≤ since → IfSome page (λ p. map changed_of p.items ≡ filter (comes_after since after) (map changed_of kept.items.items))
    → IfSome page (λ p. map changed_of p.items ≡ take PAGE (changed_after since after v))
page_kept kept v since after None are less same = tt
page_kept kept v since after (Some page) are less same =
    let told : filter (comes_after since after) (map changed_of kept.items.items) ≡ changed_after since after v = ap (filter (comes_after since after)) are.items ∙ later_among kept.since since after v v.items less in
    let many : length (changed_after since after v) ≡ length (filter (comes_after since after) (map changed_of kept.items.items)) = ap length (sym told) in
    let short : length (filter (comes_after since after) (map changed_of kept.items.items)) ≤ length (map changed_of kept.items.items) = filter_shorter (comes_after since after) (map changed_of kept.items.items) in
    let all : length (map changed_of kept.items.items) ≡ length kept.items.items = length-map kept.items.items changed_of in
    let few : length kept.items.items < PAGE = are.few in
    same ∙ told ∙ sym (take_all PAGE (changed_after since after v) (omega (arith, many, short, all, few)))

-- ---- a page that is kept

-- all of a page come after its number and the empty text
all_behind : (since : ℕ) (v : Views) (items : Items) → filter (comes_after since []) (map (numbered_in v) (filter (is_later since [] v) items)) ≡ map (numbered_in v) (filter (is_later since [] v) items)
all_behind since v items = later_among since since [] v items (omega arith)

-- a page that is not full has all that were changed
pub page_whole : (since : ℕ) (page copy : List ChangedItem) (v : Views) → map changed_of page ≡ take PAGE (changed_after since [] v) → length page < PAGE → map changed_of copy ≡ filter (comes_after since []) (map changed_of page)
    → map changed_of copy ≡ changed_after since [] v
page_whole since page copy v told few same =
    let many : length (take PAGE (changed_after since [] v)) ≡ length page = sym (ap length told) ∙ length-map page changed_of in
    let whole : map changed_of page ≡ changed_after since [] v = told ∙ take_short PAGE (changed_after since [] v) (omega (arith, many, few)) in
    same ∙ ap (filter (comes_after since [])) whole ∙ all_behind since v v.items

pub copy_few : (since : ℕ) (page copy : List ChangedItem) → length page < PAGE → map changed_of copy ≡ filter (comes_after since []) (map changed_of page) → length copy < PAGE
copy_few since page copy few same =
    let many : length copy ≡ length (filter (comes_after since []) (map changed_of page)) = sym (length-map copy changed_of) ∙ ap length same in
    let short : length (filter (comes_after since []) (map changed_of page)) ≤ length (map changed_of page) = filter_shorter (comes_after since []) (map changed_of page) in
    let all : length (map changed_of page) ≡ length page = length-map page changed_of in
    omega (arith, many, short, all, few)

-- one copy more
pub one_later : (p : Changed → Bool) (items : List ChangedItem) (i : ℕ) (item : ChangedItem) (page now : List ChangedItem) → i < length items → get_or items i item ≡ item → map changed_of page ≡ filter p (map changed_of (take i items)) → map changed_of now ≡ map changed_of page ++ filter p (changed_of item ∷ [])
    → map changed_of now ≡ filter p (map changed_of (take (i + 1) items))
one_later p items i item page now low is so more =
    let taken : take (i + 1) items ≡ take i items ++ item ∷ [] = take_more items i item low ∙ ap (λ (q : ChangedItem). take i items ++ q ∷ []) is in
    more ∙ ap (λ (l : List Changed). l ++ filter p (changed_of item ∷ [])) so
    ∙ sym (ap (λ (l : List ChangedItem). filter p (map changed_of l)) taken ∙ ap (filter p) (map-append changed_of (take i items) (item ∷ [])) ∙ filter-append p (map changed_of (take i items)) (changed_of item ∷ []))
