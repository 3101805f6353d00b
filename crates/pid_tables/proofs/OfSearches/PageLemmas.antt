-- A page of what is sought, by its definition; pages one below the other.
use Rattle.std.proofs.Common.{◌≡◌, ℕ, suc, ◌≤◌, List, [], ◌∷◌, ◌++◌, length, map, filter, take, reverse, Bool, true, false, cond, refl, sym, ap, subst, ◌∙◌, arith, append-nil}
use Rattle.std.specs.Prelude.{◌||◌, ◌==◌, nat_lt, if◌then◌else◌}
use Rattle.std.proofs.lemmas.Bool.Decides.{nat_tests}
use Rattle.std.proofs.lemmas.List.{length-map, length-reverse, reverse-append, take-append-le, take-map, take_all, append_assoc}
use Rattle.std.proofs.lemmas.List.Elements.{filter-append}
use Rattle.pid_moderation.specs.declared.facts.State.{State}
use Rattle.pid_moderation.specs.declared.lists.Listed.{Listed}
use Rattle.pid_moderation.specs.declared.lists.SubmissionPage.{SubmissionPage}
use Rattle.pid_moderation.specs.PendingPages.{standings_from}
use Rattle.pid_moderation.specs.SubmissionPages.{ListingPage, Search, Listing, is_before, last_number, listed_of, listing_in, listings_before, next_before, page_among, sought_in, submission_page_of, submissions_of, unless_first}
use Rattle.pid_moderation.specs.Submissions.{Standing}
use Rattle.pid_moderation.specs.Views.{Views, Submitted}
use Rattle.pid_tables.specs.Lists.Laws.{SubmissionsGoOn, search_below, what_is_left}
use Rattle.pid_tables.proofs.OfLists.FallingLemmas.{standings_count}
use Rattle.pid_tables.specs.Lists.Steps.SubmissionRows.{next_after}

-- ---- what stands for no number

pub no_number : (n : ℕ) → n ≡ 0 → (n == 0) ≡ true
no_number n none = ap (λ m. m == 0) none

pub some_number : (n : ℕ) → (n ≡ 0 → ⊥) → (n == 0) ≡ false
some_number n some = grind (arith, nat_tests, some)

-- ---- the last one of all is the first submission

last_pushed : (d : ℕ) (xs : List Listing) (l : Listing) → last_number d (xs ++ l ∷ []) ≡ l.number
last_pushed d [] l = refl
last_pushed d (x ∷ xs) l = last_pushed x.number xs l

below_one : (before n : ℕ) → before ≡ 1 → (before == 0 || nat_lt n before) ≡ true → n ≡ 0
below_one before n one low = subst (λ b. (b == 0 || nat_lt n b) ≡ true → n ≡ 0) (sym one) (λ h. none_under n h) low
  where
    none_under : (n : ℕ) → nat_lt n 1 ≡ true → n ≡ 0
    none_under n h = grind (arith, nat_tests)

none_below : (before d : ℕ) (xs : List Listing) → before ≡ 1 → d ≡ 0 → last_number d (filter (is_before before) xs) ≡ 0
none_below before d [] one none = none
none_below before d (x ∷ xs) one none = go (is_before before x) refl (λ n zero_is. none_below before n xs one zero_is)
  where
    go : (b : Bool) → is_before before x ≡ b → ((n : ℕ) → n ≡ 0 → last_number n (filter (is_before before) xs) ≡ 0) → last_number d (cond b (x ∷ filter (is_before before) xs) (filter (is_before before) xs)) ≡ 0
    go true low rest = rest x.number (below_one before x.number one low)
    go false high rest = rest d none

must_be_one : (before : ℕ) → (before == 0 || nat_lt 1 before) ≡ false → before ≡ 1
must_be_one before h = go (before == 0) refl (nat_lt 1 before) refl h
  where
    go : (a : Bool) → (before == 0) ≡ a → (b : Bool) → nat_lt 1 before ≡ b → (a || b) ≡ false → before ≡ 1
    go true is b low bad = absurd (let none : ⊥ = cc in none)
    go false is true low bad = absurd (let none : ⊥ = cc in none)
    go false is false low bad = grind (arith, nat_tests)

module _ (f : ℕ × Standing → Listing) (same : (e : ℕ × Standing) → (f e).number ≡ e.0) (before : ℕ) where
  first_of_all : (first : Listing) (later : List Listing) → first.number ≡ 1 → unless_first (last_number 0 (filter (is_before before) (reverse (first ∷ later)))) ≡ 0
  first_of_all first later one =
      ap (λ l. unless_first (last_number 0 (filter (is_before before) l))) (reverse-append (first ∷ []) later)
      ∙ ap (λ l. unless_first (last_number 0 l)) (filter-append (is_before before) (reverse later) (first ∷ []))
      ∙ at_end (is_before before first) refl
    where
      at_end : (b : Bool) → is_before before first ≡ b → unless_first (last_number 0 (filter (is_before before) (reverse later) ++ cond b (first ∷ []) [])) ≡ 0
      at_end true low = ap unless_first (last_pushed 0 (filter (is_before before) (reverse later)) first ∙ one)
      at_end false high =
          let bound : (before == 0 || nat_lt 1 before) ≡ false = sym (ap (λ n. before == 0 || nat_lt n before) one) ∙ high in
          ap (λ l. unless_first (last_number 0 l)) (append-nil (filter (is_before before) (reverse later)))
          ∙ ap unless_first (none_below before 0 (reverse later) (must_be_one before bound) refl)

  first_is_last : (submits : List Submitted) (state : ℕ → State) → unless_first (last_number 0 (filter (is_before before) (reverse (map f (standings_from 1 submits state))))) ≡ 0
  first_is_last [] state = refl
  first_is_last (s ∷ submits) state = first_of_all (f (1, record { submitted = s; state = state 1 })) (map f (standings_from 2 submits state)) (same (1, record { submitted = s; state = state 1 }))

-- ---- a page that looks at all of them

few_filtered : (p : Listing → Bool) (xs : List Listing) → length (filter p xs) ≤ length xs
few_filtered p [] = omega arith
few_filtered p (x ∷ xs) =
    let rest = few_filtered p xs in
    elim (p x) as (λ b. length (cond b (x ∷ filter p xs) (filter p xs)) ≤ suc (length xs)) [
      | true ↦ omega (arith, rest)
      | false ↦ omega (arith, rest)
    ]

module _ (v : Views) (search : Search) where
  abbrev looked : List Listing
  looked = listings_before search.before v

  all_looked : take (length v.submits) looked ≡ looked
  all_looked =
      let all : List Listing = map (listing_in v) (standings_from 1 v.submits v.state) in
      let few = few_filtered (is_before search.before) (reverse all) in
      let count : length (reverse all) ≡ length v.submits = length-reverse all ∙ length-map (standings_from 1 v.submits v.state) (listing_in v) ∙ standings_count v.state 1 v.submits in
      take_all (length v.submits) looked (omega (arith, few, count))

  goes_on : (page : List Listing) → next_after 100 page 0 ≡ next_before 100 looked page
  goes_on page = elim (length page == 100) as (λ b. unless_first (if b then last_number 0 page else 0) ≡ unless_first (last_number 0 (if b then page else looked))) [
    | true ↦ refl
    | false ↦ sym (first_is_last (listing_in v) (λ e. refl) search.before v.submits v.state)
  ]

  pub page_is : (next : ℕ) (page : List Listing) → page ≡ take 100 (sought_in search v) → next ≡ next_after 100 page 0 → record { before = next; submissions = page } ≡ submissions_of 100 (length v.submits) search v
  page_is next page items after =
      let before : next ≡ next_before 100 looked (take 100 (sought_in search v)) = after ∙ goes_on page ∙ ap (next_before 100 looked) items in
      (λ i. record { before = before i; submissions = items i }) ∙ ap (page_among 100 search) (sym all_looked)

  -- ---- a walk by pages

  -- what was found so far, and what is below
  abbrev pub HasWalked : List Listed → ℕ → Type 0
  HasWalked found next = map listed_of found ++ sought_in (search_below search next) v ≡ sought_in search v

  -- the next page, as the tables answer it
  pub page_goes : SubmissionsGoOn → (next : ℕ) (page : SubmissionPage) → submission_page_of page ≡ submissions_of 100 10000 (search_below search next) v
      → sought_in (search_below search next) v ≡ map listed_of page.submissions.items ++ what_is_left page.before (search_below search next) v
  page_goes law next page told =
      law 100 10000 (search_below search next) v (omega arith) (omega arith)
      ∙ ap (λ (p : ListingPage). p.submissions ++ what_is_left p.before (search_below search next) v) (sym told)

  left_is : (found new : List Listed) (next below : ℕ) (page : List Listing) → HasWalked found next → map listed_of new ≡ map listed_of found ++ page
      → sought_in (search_below search next) v ≡ page ++ what_is_left below (search_below search next) v → map listed_of new ++ what_is_left below (search_below search next) v ≡ sought_in search v
  left_is found new next below page has added goes =
      ap (λ l. l ++ what_is_left below (search_below search next) v) added ∙ append_assoc (map listed_of found) page (what_is_left below (search_below search next) v)
      ∙ ap (λ l. map listed_of found ++ l) (sym goes) ∙ has

  pub walked_on : (found new : List Listed) (next below : ℕ) (page : List Listing) → (below == 0) ≡ false → HasWalked found next → map listed_of new ≡ map listed_of found ++ page
      → sought_in (search_below search next) v ≡ page ++ what_is_left below (search_below search next) v → HasWalked new below
  walked_on found new next below page more has added goes =
      sym (ap (λ b. map listed_of new ++ (if b then [] else sought_in (search_below search below) v)) more) ∙ left_is found new next below page has added goes

  pub walked_all : (found new : List Listed) (next below : ℕ) (page : List Listing) → (below == 0) ≡ true → HasWalked found next → map listed_of new ≡ map listed_of found ++ page
      → sought_in (search_below search next) v ≡ page ++ what_is_left below (search_below search next) v → map listed_of (take 100 new) ≡ take 100 (sought_in search v)
  walked_all found new next below page none has added goes =
      sym (take-map listed_of 100 new)
      ∙ ap (take 100) (sym (append-nil (map listed_of new)) ∙ sym (ap (λ b. map listed_of new ++ (if b then [] else sought_in (search_below search below) v)) none) ∙ left_is found new next below page has added goes)

  pub walked_enough : (found new : List Listed) (next below : ℕ) (page : List Listing) → 100 ≤ length new → HasWalked found next → map listed_of new ≡ map listed_of found ++ page
      → sought_in (search_below search next) v ≡ page ++ what_is_left below (search_below search next) v → map listed_of (take 100 new) ≡ take 100 (sought_in search v)
  walked_enough found new next below page enough has added goes =
      let many : 100 ≤ length (map listed_of new) = let same = length-map new listed_of in omega (arith, same, enough) in
      sym (take-map listed_of 100 new)
      ∙ sym (take-append-le 100 (map listed_of new) (what_is_left below (search_below search next) v) many)
      ∙ ap (take 100) (left_is found new next below page has added goes)
