-- Pages that are asked for one after the other.
use Rattle.std.proofs.Common.{◌≡◌, inl, ℕ, zero, suc, ◌+◌, ◌*◌, ◌≤◌, ◌<◌, List, [], ◌∷◌, ◌++◌, length, map, filter, take, drop, Bool, true, false, cond, is_lt, Ordering, Equal, Less, Greater, refl, sym, ap, subst, ◌∙◌, arith}
use Rattle.std.specs.Prelude.{◌&&◌, nat_lt}
use Rattle.std.specs.List.{AllByRecursion}
use Rattle.std.specs.Cmp.Lexicographic.{nat_list_cmp_total}
use Rattle.std.specs.FinMap.Entries.{is_sorted, below_all}
use Rattle.std.proofs.lemmas.Bool.{and_parts}
use Rattle.std.proofs.lemmas.Bool.Decides.{nat_tests}
use Rattle.std.proofs.lemmas.Cmp.{tied_itself}
use Rattle.std.proofs.lemmas.List.{drop-take, take-append-drop, take-take, take_all}
use native.Mathlib.Nat.{suc-mul, zero-mul}
use Rattle.sqlite_rules.specs.Lists.{Has}
use Rattle.sqlite_rules.proofs.ListLemmas.{all_has, has_filtered}
use Rattle.pid_ident.specs.Trees.{text_cmp}
use Rattle.pid_moderation.specs.Items.{Items}
use Rattle.pid_moderation.specs.Views.{Views, Submitted}
use Rattle.pid_moderation.specs.declared.facts.State.{State}
use Rattle.pid_moderation.specs.CheckTables.{is_pending}
use Rattle.pid_moderation.specs.Submissions.{Standing}
use Rattle.pid_moderation.specs.ChangePages.{Changed, numbered_in, is_later, changes_in, changed_after}
use Rattle.pid_tables.specs.Lists.Laws.{pending_number, changed_path}
use Rattle.pid_tables.specs.Lists.Pages.{last_of, pages_after}
use Rattle.pid_moderation.specs.PendingPages.{standings_from, pending_above}
use Rattle.pid_tables.proofs.OfLists.ItemLists.{less_is}

-- two fronts, one behind the other, are one
fronts : {X : Type 0} (a b : ℕ) (xs : List X) → take a xs ++ take b (drop a xs) ≡ take (a + b) xs
fronts a b xs =
    ap (λ l. l ++ take b (drop a xs)) (sym (take-take a (a + b) xs (omega arith))) ∙ ap (λ l. take a (take (a + b) xs) ++ l) (sym (drop-take a b xs)) ∙ take-append-drop a (take (a + b) xs)

-- ---- lists of which each entry says what comes behind it

module _ {X K : Type 0} (key : X → K) (all : K → List X) (next : (asked : K) (x : X) (xs : List X) → all asked ≡ x ∷ xs → all (key x) ≡ xs) where
  one_page : (m : ℕ) (asked : K) (ys : List X) → all asked ≡ ys → ((k : K) → all (last_of key k (take m (all k))) ≡ drop m (all k)) → all (last_of key asked (take (suc m) ys)) ≡ drop (suc m) ys
  one_page m asked [] is fewer = is
  one_page m asked (y ∷ ys) is fewer = let step = next asked y ys is in subst (λ zs. all (last_of key (key y) (take m zs)) ≡ drop m zs) step (fewer (key y))

  -- behind a page stands what it left out
  pub goes_on : (m : ℕ) (asked : K) → all (last_of key asked (take m (all asked))) ≡ drop m (all asked)
  goes_on zero asked = refl
  goes_on (suc m) asked = one_page m asked (all asked) refl (λ k. goes_on m k)

  module _ (m : ℕ) (page : K → List X) (is : (k : K) → page k ≡ take m (all k)) where
    pub after_page : (asked : K) → all (last_of key asked (page asked)) ≡ drop m (all asked)
    after_page asked = ap (λ p. all (last_of key asked p)) (is asked) ∙ goes_on m asked

    pub joined : (count : ℕ) (asked : K) → pages_after key page count asked ≡ take (count * m) (all asked)
    joined zero asked = ap (λ n. take n (all asked)) (sym (zero-mul m))
    joined (suc count) asked =
        let rest = joined count (last_of key asked (page asked)) ∙ ap (take (count * m)) (after_page asked) in
        let more : m + count * m ≡ suc count * m = omega (arith, suc-mul count m) in
        (λ i. is asked i ++ rest i) ∙ fronts m (count * m) (all asked) ∙ ap (λ n. take n (all asked)) more

    pub whole : (count : ℕ) (asked : K) → length (all asked) ≤ count * m → pages_after key page count asked ≡ all asked
    whole count asked room = joined count asked ∙ take_all (count * m) (all asked) room

-- ---- elements that come behind a key and pass a test, in the order of their keys

pub record IsStrict {K : Type 0} (lt : K → K → Bool) : Type 0 where
  pub itself : (a : K) → lt a a ≡ false
  pub apart : (a b : K) → lt a b ≡ true → lt b a ≡ false
  pub through : (a b c : K) → lt a b ≡ true → lt b c ≡ true → lt a c ≡ true

module _ {X K : Type 0} (key : X → K) (lt : K → K → Bool) (strict : IsStrict lt) (passes : X → Bool) where
  abbrev pub comes : K → X → Bool
  comes k x = lt k (key x) && passes x

  abbrev pub Rise : List X → Type 0
  Rise [] = Unit {0}
  Rise (x ∷ xs) = AllByRecursion (λ y. lt (key x) (key y) ≡ true) xs × Rise xs

  same_rest : (k j : K) (xs : List X) → lt k j ≡ true → AllByRecursion (λ y. lt j (key y) ≡ true) xs → filter (comes j) xs ≡ filter (comes k) xs
  same_rest k j [] less all = refl
  same_rest k j (x ∷ xs) less all =
      let test = all.0 ∙ sym (strict.through k j (key x) less all.0) in
      let rest = same_rest k j xs less all.1 in
      λ i. cond (test i && passes x) (x ∷ rest i) (rest i)

  first_is : (x : X) (xs : List X) (k : K) (b : Bool) → comes k x ≡ b → (y : X) (ys : List X) → AllByRecursion (λ z. lt (key x) (key z) ≡ true) xs
      → (filter (comes k) xs ≡ y ∷ ys → filter (comes (key y)) xs ≡ ys) → cond b (x ∷ filter (comes k) xs) (filter (comes k) xs) ≡ y ∷ ys → filter (comes (key y)) (x ∷ xs) ≡ ys
  first_is x xs k true test y ys above later is =
      let same : x ≡ y = cc in
      let others : filter (comes k) xs ≡ ys = cc in
      let less : lt k (key x) ≡ true = (and_parts _ _ test).0 in
      subst (λ z. filter (comes (key z)) (x ∷ xs) ≡ ys) same
      (ap (λ b. cond (b && passes x) (x ∷ filter (comes (key x)) xs) (filter (comes (key x)) xs)) (strict.itself (key x)) ∙ same_rest k (key x) xs less above ∙ others)
  first_is x xs k false test y ys above later is =
      let in_rest : Has (filter (comes k) xs) y = subst (λ l. Has l y) (sym is) (inl refl) in
      let less = all_has (λ z. lt (key x) (key z) ≡ true) xs y above (has_filtered (comes k) xs y in_rest).0 in
      ap (λ b. cond (b && passes x) (x ∷ filter (comes (key y)) xs) (filter (comes (key y)) xs)) (strict.apart (key x) (key y) less) ∙ later is

  pub next_one : (xs : List X) → Rise xs → (k : K) (y : X) (ys : List X) → filter (comes k) xs ≡ y ∷ ys → filter (comes (key y)) xs ≡ ys
  next_one [] up k y ys is = absurd (let bad : ⊥ = cc in bad)
  next_one (x ∷ xs) up k y ys is = first_is x xs k (comes k x) refl y ys up.0 (λ rest. next_one xs up.1 k y ys rest) is

-- ---- pending submissions

numbers_strict : IsStrict nat_lt
numbers_strict = record {
  itself = λ a. grind (arith, nat_tests);
  apart = λ a b less. grind (arith, nat_tests);
  through = λ a b c first second. grind (arith, nat_tests);
}

abbrev pub waits : ℕ × Standing → Bool
waits s = is_pending s.1.state

above_all : (m n : ℕ) (submits : List Submitted) (state : ℕ → State) → m < n → AllByRecursion (λ s. nat_lt m (pending_number s) ≡ true) (standings_from n submits state)
above_all m n [] state low = tt
above_all m n (s ∷ submits) state low = (grind (arith, nat_tests), above_all m (n + 1) submits state (omega (arith, low)))

standings_rise : (n : ℕ) (submits : List Submitted) (state : ℕ → State) → Rise pending_number nat_lt numbers_strict waits (standings_from n submits state)
standings_rise n [] state = tt
standings_rise n (s ∷ submits) state = (above_all n (n + 1) submits state (omega arith), standings_rise (n + 1) submits state)

pub next_pending : (v : Views) (after : ℕ) (s : ℕ × Standing) (more : List (ℕ × Standing)) → pending_above after v ≡ s ∷ more → pending_above (pending_number s) v ≡ more
next_pending v = next_one pending_number nat_lt numbers_strict waits (standings_from 1 v.submits v.state) (standings_rise 1 v.submits v.state)

-- ---- changes

abbrev pub path_lt : List ℕ → List ℕ → Bool
path_lt a b = is_lt (text_cmp a b)

never_after_itself : (a b : List ℕ) → text_cmp a b ≡ Less → text_cmp b a ≡ Less → ⊥
never_after_itself a b first second = let bad : ◌≡◌ {A = Ordering} Equal Less = sym (tied_itself nat_list_cmp_total a) ∙ nat_list_cmp_total.trans a b a first second in cc

not_less : (a b : List ℕ) (o : Ordering) → text_cmp b a ≡ o → text_cmp a b ≡ Less → is_lt o ≡ false
not_less a b Less is less = absurd (never_after_itself a b less is)
not_less a b Equal is less = refl
not_less a b Greater is less = refl

paths_strict : IsStrict path_lt
paths_strict = record {
  itself = λ a. ap is_lt (tied_itself nat_list_cmp_total a);
  apart = λ a b less. not_less a b (text_cmp b a) refl (less_is (text_cmp a b) less);
  through = λ a b c first second. ap is_lt (nat_list_cmp_total.trans a b c (less_is (text_cmp a b) first) (less_is (text_cmp b c) second));
}

module _ (v : Views) (since : ℕ) where
  abbrev pub is_new : List ℕ × List ℕ → Bool
  is_new item = nat_lt since (v.since item.0)

  items_above : (path : List ℕ) (items : Items) → below_all text_cmp path items ≡ true → AllByRecursion (λ (item : List ℕ × List ℕ). path_lt path item.0 ≡ true) items
  items_above path [] h = tt
  items_above path (i ∷ items) h = let parts = and_parts (is_lt (text_cmp path i.0)) (below_all text_cmp path items) h in (parts.0, items_above path items parts.1)

  items_rise : (items : Items) → is_sorted text_cmp items ≡ true → Rise (λ (item : List ℕ × List ℕ). item.0) path_lt paths_strict is_new items
  items_rise [] h = tt
  items_rise (i ∷ items) h = let parts = and_parts (below_all text_cmp i.0 items) (is_sorted text_cmp items) h in (items_above i.0 items parts.0, items_rise items parts.1)

  next_mapped : (sorted : is_sorted text_cmp v.items ≡ true) (after : List ℕ) (found : Items) → filter (is_later since after v) v.items ≡ found
      → (item : Changed) (more : List Changed) → map (numbered_in v) found ≡ item ∷ more → changed_after since item.path v ≡ more
  next_mapped sorted after [] is item more same = absurd (let bad : ⊥ = cc in bad)
  next_mapped sorted after (x ∷ found) is item more same =
      let first : numbered_in v x ≡ item = cc in
      let others : map (numbered_in v) found ≡ more = cc in
      subst (λ (y : Changed). changed_after since y.path v ≡ more) first
      (ap (map (numbered_in v)) (next_one (λ (e : List ℕ × List ℕ). e.0) path_lt paths_strict is_new v.items (items_rise v.items sorted) after x found is) ∙ others)

  pub next_changed : is_sorted text_cmp v.items ≡ true → (after : List ℕ) (item : Changed) (more : List Changed) → changed_after since after v ≡ item ∷ more → changed_after since (changed_path item) v ≡ more
  next_changed sorted after item more is = next_mapped sorted after (filter (is_later since after v) v.items) refl item more is

  pub changes_front : (most : ℕ) (after : List ℕ) → (changes_in most since after v).items ≡ take most (changed_after since after v)
  changes_front most after = refl
