-- Pages of submissions that are asked for one below the other.
use Rattle.std.proofs.Common.{◌≡◌, ◌≢◌, inl, inr, ℕ, zero, suc, ◌+◌, ◌-◌, ◌<◌, ◌≤◌, length, List, [], ◌∷◌, ◌++◌, map, filter, take, drop, Bool, true, false, cond, refl, sym, ap, subst, ◌∙◌, arith, length-take}
use Rattle.std.specs.Prelude.{◌&&◌, ◌||◌, ◌==◌, nat_lt, nat_le, if◌then◌else◌}
use Rattle.std.specs.List.{AllByRecursion}
use Rattle.std.proofs.lemmas.Bool.{cases_Bool}
use Rattle.std.proofs.lemmas.Bool.Decides.{nat_tests}
use Rattle.std.proofs.lemmas.List.{take-append-le, take-append-drop, take_all}
use Rattle.std.proofs.lemmas.List.Elements.{filter-append}
use Rattle.sqlite.specs.Tree.{IsAscending}
use Rattle.sqlite_trees.proofs.ListLemmas.{all-map, ascending-map, ascending_weaker}
use Rattle.sqlite_rules.proofs.ListLemmas.{all_from, all_has}
use Rattle.std.proofs.lemmas.Option.{slice_get_within}
use Rattle.pid_moderation.specs.Views.{Views}
use Rattle.pid_moderation.specs.Submissions.{Standing}
use Rattle.pid_moderation.specs.PendingPages.{standings_from}
use Rattle.pid_moderation.specs.SubmissionPages.{Search, Listing, listing_in, all_listings, is_before, is_sought, listings_before, sought_in, last_number, unless_first, next_before, first_sought, submissions_of}
use Rattle.pid_tables.specs.Lists.Laws.{search_below, what_is_left}
use Rattle.pid_tables.specs.Lists.Pages.{last_of, pages_down}
use Rattle.pid_tables.specs.Lists.Steps.SubmissionRows.{last_before}
use Rattle.pid_tables.proofs.OfLists.FallingLemmas.{filter_same_on, filter_twice}
use Rattle.pid_tables.proofs.OfLists.NumberLemmas.{nothing_left}
use Rattle.pid_tables.proofs.OfLists.PageLemmas.{IsStrict, Rise, comes, goes_on, next_one}
use Rattle.pid_tables.proofs.OfLists.PendingLists.{standings_are}
use Rattle.pid_tables.proofs.OfLists.SubmissionLists.{all_reverse, ascending_reverse, standings_ascend}
use Rattle.pid_tables.proofs.OfLists.SubmissionPageLemmas.{before_is, last_within}

abbrev falls : ℕ → ℕ → Bool
falls a b = nat_lt b a

falls_strictly : IsStrict falls
falls_strictly = record {
  itself = λ a. grind (arith, nat_tests);
  apart = λ a b less. grind (arith, nat_tests);
  through = λ a b c first second. grind (arith, nat_tests);
}

abbrev number_of : Listing → ℕ
number_of l = l.number

abbrev any : Listing → Bool
any l = true

last_same : (d k : ℕ) (xs : List Listing) → 1 ≤ length xs → last_number d xs ≡ last_of number_of k xs
last_same d k [] some = absurd (omega (arith, some))
last_same d k (x ∷ xs) some = after x.number xs
  where
    after : (n : ℕ) (xs : List Listing) → last_number n xs ≡ last_of number_of n xs
    after n [] = refl
    after n (x ∷ xs) = after x.number xs

last_under : (d k : ℕ) (xs : List Listing) → d < k → AllByRecursion (λ (l : Listing). l.number < k) xs → last_number d xs < k
last_under d k [] low all = low
last_under d k (x ∷ xs) low all = last_under x.number k xs all.0 all.1

all_taken : (P : Listing → Type 0) (n : ℕ) (xs : List Listing) → AllByRecursion P xs → AllByRecursion P (take n xs)
all_taken P zero xs all = tt
all_taken P (suc n) [] all = tt
all_taken P (suc n) (x ∷ xs) all = (all.0, all_taken P n xs all.1)

shorter_taken : (n : ℕ) (xs : List Listing) → 1 ≤ n → 1 ≤ length xs → 1 ≤ length (take n xs)
shorter_taken n xs some there = let many = length-take n xs in omega (arith, many, some, there)

filter_none : (p : Listing → Bool) (xs : List Listing) → AllByRecursion (λ l. p l ≡ false) xs → filter p xs ≡ []
filter_none p [] all = refl
filter_none p (x ∷ xs) all = ap (λ b. cond b (x ∷ filter p xs) (filter p xs)) all.0 ∙ filter_none p xs all.1

and_true : (a b : Bool) → ((a && true) && b) ≡ (a && b)
and_true true b = refl
and_true false b = refl

full_is : (n m : ℕ) → (n == m) ≡ true → n ≡ m
full_is n m h = grind (arith, nat_tests)

not_full : (n m : ℕ) → (n == m) ≡ false → n ≢ m
not_full n m h same = grind (arith, nat_tests)

below_next : (n m : ℕ) (b : Bool) → nat_lt n (m + 1) ≡ b → nat_le n m ≡ (b && true)
below_next n m true h = grind (arith, nat_tests)
below_next n m false h = grind (arith, nat_tests)

module _ (v : Views) where
  abbrev count : ℕ
  count = length v.submits

  abbrev all : List Listing
  all = all_listings v

  numbers_in : AllByRecursion (λ (l : Listing). (1 ≤ l.number) × (l.number ≤ count)) all
  numbers_in = all_reverse (λ (l : Listing). (1 ≤ l.number) × (l.number ≤ count)) (map (listing_in v) (standings_from 1 v.submits v.state))
      (all-map (λ (l : Listing). (1 ≤ l.number) × (l.number ≤ count)) (listing_in v) (standings_from 1 v.submits v.state)
      (all_from (λ (e : ℕ × Standing). (1 ≤ e.0) × (e.0 ≤ count)) (standings_from 1 v.submits v.state) (λ e h.
      let it = standings_are v.submits v.state 1 e h in
      let low = slice_get_within v.submits it.0 e.1.submitted it.2 in
      (omega (arith, it.1), omega (arith, it.1, low)))))

  all_fall : IsAscending (λ (a b : Listing). falls a.number b.number ≡ true) all
  all_fall = ascending_reverse (λ (a b : Listing). nat_lt a.number b.number ≡ true) (map (listing_in v) (standings_from 1 v.submits v.state))
      (ascending-map (λ (a b : Listing). nat_lt a.number b.number ≡ true) (listing_in v) (standings_from 1 v.submits v.state)
      (ascending_weaker (λ (a b : ℕ × Standing). a.0 < b.0) (λ a b. nat_lt a.0 b.0 ≡ true) (λ a b less. grind (arith, nat_tests)) (standings_from 1 v.submits v.state) (standings_ascend 1 v.submits v.state)))

  module _ (p : Listing → Bool) where
    rise : (xs : List Listing) → IsAscending (λ (a b : Listing). falls a.number b.number ≡ true) xs → Rise number_of falls falls_strictly p xs
    rise [] up = tt
    rise (x ∷ xs) up = (up.0, rise xs up.1)

    -- those below a number that pass
    abbrev under : ℕ → List Listing
    under k = filter (comes number_of falls falls_strictly p k) all

    behind : (m k : ℕ) → under (last_of number_of k (take m (under k))) ≡ drop m (under k)
    behind m k = goes_on number_of under (λ asked x xs is. next_one number_of falls falls_strictly p all (rise all all_fall) asked x xs is) m k

    -- no number is below 1
    under_first : (k : ℕ) → k ≤ 1 → under k ≡ []
    under_first k low = filter_none (comes number_of falls falls_strictly p k) all (all_from (λ l. comes number_of falls falls_strictly p k l ≡ false) all (λ l h.
        let bound = all_has (λ (l : Listing). (1 ≤ l.number) × (l.number ≤ count)) all l numbers_in h in
        let no : nat_lt l.number k ≡ false = let first = bound.0 in grind (arith, nat_tests) in
        ap (λ b. b && p l) no))

    under_one : (k : ℕ) (x : Listing) (rest : List Listing) (low : Bool) → nat_lt x.number k ≡ low → (passes : Bool) → AllByRecursion (λ (l : Listing). l.number < k) rest
        → AllByRecursion (λ (l : Listing). l.number < k) (cond (low && passes) (x ∷ rest) rest)
    under_one k x rest true low true others = (grind (arith, nat_tests), others)
    under_one k x rest true low false others = others
    under_one k x rest false low passes others = others

    filtered_under : (k : ℕ) (xs : List Listing) → AllByRecursion (λ (l : Listing). l.number < k) (filter (comes number_of falls falls_strictly p k) xs)
    filtered_under k [] = tt
    filtered_under k (x ∷ xs) = under_one k x (filter (comes number_of falls falls_strictly p k) xs) (nat_lt x.number k) refl (p x) (filtered_under k xs)

    all_under : (k : ℕ) → AllByRecursion (λ (l : Listing). l.number < k) (under k)
    all_under k = filtered_under k all

  -- what is below the bound, and what of it is sought
  below_is : (before : ℕ) → listings_before before v ≡ under any (last_before count before + 1)
  below_is before = filter_same_on (is_before before) (comes number_of falls falls_strictly any (last_before count before + 1)) all (λ l h.
      let bound = all_has (λ (l : Listing). (1 ≤ l.number) × (l.number ≤ count)) all l numbers_in h in
      before_is count before l.number bound.1 ∙ below_next l.number (last_before count before) (nat_lt l.number (last_before count before + 1)) refl)

  module _ (search : Search) where
    abbrev sought : Listing → Bool
    sought = is_sought search

    sifted : (k : ℕ) → filter sought (under any k) ≡ under sought k
    sifted k = filter_twice sought (comes number_of falls falls_strictly any k) all ∙ filter_same_on (λ l. comes number_of falls falls_strictly any k l && sought l) (comes number_of falls falls_strictly sought k) all (λ l h. and_true (nat_lt l.number k) (sought l))

    sought_is : (before : ℕ) → sought_in (search_below search before) v ≡ under sought (last_before count before + 1)
    sought_is before = ap (filter sought) (below_is before) ∙ sifted (last_before count before + 1)

    nothing_sought : (n : ℕ) → filter sought (drop n []) ≡ []
    nothing_sought zero = refl
    nothing_sought (suc n) = refl

    nothing_below : (n : ℕ) → under sought (last_number 0 (take n [])) ≡ []
    nothing_below zero = under_first sought 0 (omega arith)
    nothing_below (suc n) = under_first sought 0 (omega arith)

    -- where the page begins that comes after one, and what is below
    record IsStep (most searched k : ℕ) (below : List Listing) : Type 0 where
      number : ℕ
      next : next_before most (take searched below) (first_sought most search (take searched below)) ≡ unless_first number
      lower : number < k
      left : under sought k ≡ first_sought most search (take searched below) ++ under sought number

    module _ (most searched k : ℕ) (some_listed : 1 ≤ most) (some_searched : 1 ≤ searched) (bounded : 1 ≤ k) where
      abbrev looked : List Listing
      looked = take searched (under any k)

      abbrev found : List Listing
      found = filter sought looked

      all_found : under sought k ≡ found ++ filter sought (drop searched (under any k))
      all_found = sym (sifted k) ∙ ap (filter sought) (sym (take-append-drop searched (under any k))) ∙ filter-append sought looked (drop searched (under any k))

      full : (length (take most found) == most) ≡ true → IsStep most searched k (under any k)
      full is =
          let many : length (take most found) ≡ most = full_is (length (take most found)) most is in
          let enough : most ≤ length found = let taken = length-take most found in omega (arith, many, taken) in
          let same : take most (under sought k) ≡ take most found = ap (take most) all_found ∙ take-append-le most found (filter sought (drop searched (under any k))) enough in
          let last : last_number 0 (take most found) ≡ last_of number_of k (take most (under sought k)) = last_same 0 k (take most found) (omega (arith, many, some_listed)) ∙ ap (last_of number_of k) (sym same) in
          record {
            number = last_number 0 (take most found);
            next = ap (λ b. unless_first (last_number 0 (if b then take most found else looked))) is;
            lower = subst (λ l. last_number 0 l < k) same (last_under 0 k (take most (under sought k)) (omega (arith, bounded)) (all_taken _ most (under sought k) (all_under sought k)));
            left = sym (take-append-drop most (under sought k)) ∙ λ i. same i ++ (sym (behind sought most k) ∙ ap (under sought) (sym last)) i;
          }

      short : (length (take most found) == most) ≡ false → IsStep most searched k (under any k)
      short is =
          let few : length found ≤ most = let taken = length-take most found in let other = not_full (length (take most found)) most is in omega (arith, taken, other) in
          let whole : take most found ≡ found = take_all most found few in
          let next : next_before most looked (take most found) ≡ unless_first (last_number 0 looked) = ap (λ b. unless_first (last_number 0 (if b then take most found else looked))) is in
          let lower : last_number 0 looked < k = last_under 0 k looked (omega (arith, bounded)) (all_taken _ searched (under any k) (all_under any k)) in
          record { number = last_number 0 looked; next = next; lower = lower; left = all_found ∙ λ i. sym whole i ++ rest (nat_le 1 (length (under any k))) refl i }
        where
          rest : (some : Bool) → nat_le 1 (length (under any k)) ≡ some → filter sought (drop searched (under any k)) ≡ under sought (last_number 0 looked)
          rest true there =
              let nonempty : 1 ≤ length (under any k) = grind (arith, nat_tests) in
              let last : last_number 0 looked ≡ last_of number_of k looked = last_same 0 k looked (shorter_taken searched (under any k) some_searched nonempty) in
              ap (filter sought) (sym (behind any searched k) ∙ ap (under any) (sym last)) ∙ sifted (last_number 0 looked)
          rest false none =
              let empty : under any k ≡ [] = nothing_left (under any k) (grind (arith, nat_tests)) in
              ap (λ l. filter sought (drop searched l)) empty ∙ nothing_sought searched ∙ sym (ap (λ l. under sought (last_number 0 (take searched l))) empty ∙ nothing_below searched)

      step : IsStep most searched k (under any k)
      step = elim (cases_Bool (length (take most found) == most)) [ inl is ↦ full is | inr is ↦ short is ]

    lower_bound : (m : ℕ) → nat_le m 1 ≡ false → m ≤ count → last_before count m + 1 ≡ m
    lower_bound m more within = go (m == 0) refl (nat_lt count m) refl
      where
        go : (a : Bool) → (m == 0) ≡ a → (b : Bool) → nat_lt count m ≡ b → (if a || b then count else m - 1) + 1 ≡ m
        go true none b above = absurd (grind (arith, nat_tests))
        go false bound true above = absurd (grind (arith, nat_tests))
        go false bound false above = grind (arith, nat_tests)

    module _ (most searched : ℕ) (some_listed : 1 ≤ most) (some_searched : 1 ≤ searched) where
      stepped : (before : ℕ) → IsStep most searched (last_before count before + 1) (listings_before before v)
      stepped before = subst (IsStep most searched (last_before count before + 1)) (sym (below_is before)) (step most searched (last_before count before + 1) some_listed some_searched (omega arith))

      -- the page, and what is left below it
      pub goes_down : (before : ℕ) → sought_in (search_below search before) v
          ≡ (submissions_of most searched (search_below search before) v).submissions ++ what_is_left (submissions_of most searched (search_below search before) v).before search v
      goes_down before = let s = stepped before in sought_is before ∙ s.left ∙ ap (λ l. (submissions_of most searched (search_below search before) v).submissions ++ l) (left s.number s.lower (nat_le s.number 1) refl ∙ ap (λ n. what_is_left n search v) (sym s.next))
        where
          left : (m : ℕ) → m < last_before count before + 1 → (first : Bool) → nat_le m 1 ≡ first → under sought m ≡ what_is_left (if first then 0 else m) search v
          left m lower true is = under_first sought m (grind (arith, nat_tests))
          left m lower false is =
              let bound = last_within count before in
              let zero_not : (m == 0) ≡ false = grind (arith, nat_tests) in
              sym (ap (λ b. if b then [] else sought_in (search_below search m) v) zero_not ∙ sought_is m ∙ ap (under sought) (lower_bound m is (omega (arith, bound, lower))))

      -- where the next page begins is lower
      next_lower : (before : ℕ) (pages : ℕ) → last_before count before ≤ suc pages → ((submissions_of most searched (search_below search before) v).before == 0) ≡ false
          → last_before count (submissions_of most searched (search_below search before) v).before ≤ pages
      next_lower before pages room more = let s = stepped before in subst (λ n. (n == 0) ≡ false → last_before count n ≤ pages) (sym s.next) (go s.number s.lower (nat_le s.number 1) refl) more
        where
          go : (m : ℕ) → m < last_before count before + 1 → (first : Bool) → nat_le m 1 ≡ first → ((if first then 0 else m) == 0) ≡ false → last_before count (if first then 0 else m) ≤ pages
          go m lower true is bad = absurd (let none : ⊥ = cc in none)
          go m lower false is more = let bound = last_within count before in let same = lower_bound m is (omega (arith, bound, lower)) in omega (arith, same, lower, room)

      rest_pages : (pages next : ℕ) (b : Bool) → (next == 0) ≡ b → ((next == 0) ≡ false → pages_down (λ before. submissions_of most searched (search_below search before) v) pages next ≡ sought_in (search_below search next) v)
          → (if b then [] else pages_down (λ before. submissions_of most searched (search_below search before) v) pages next) ≡ (if b then [] else sought_in (search_below search next) v)
      rest_pages pages next true is later = refl
      rest_pages pages next false is later = later is

      pub all_pages : (pages before : ℕ) → last_before count before ≤ pages → pages_down (λ before. submissions_of most searched (search_below search before) v) pages before ≡ sought_in (search_below search before) v
      all_pages zero before room = sym (sought_is before ∙ under_first sought (last_before count before + 1) (omega (arith, room)))
      all_pages (suc pages) before room =
          ap (λ l. (submissions_of most searched (search_below search before) v).submissions ++ l)
          (rest_pages pages (submissions_of most searched (search_below search before) v).before ((submissions_of most searched (search_below search before) v).before == 0) refl
          (λ more. all_pages pages (submissions_of most searched (search_below search before) v).before (next_lower before pages room more))) ∙ sym (goes_down before)
