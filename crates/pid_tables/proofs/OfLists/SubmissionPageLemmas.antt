-- A page of submissions by its definition, and by the rows that were read.
use Rattle.std.proofs.Common.{◌≡◌, ◌⊎◌, inl, inr, ℕ, ◌+◌, ◌-◌, ◌<◌, ◌≤◌, length, List, [], ◌∷◌, ◌++◌, map, filter, take, drop, reverse, Bool, true, false, Option, Some, None, refl, sym, ap, subst, ◌∙◌, arith}
use Rattle.std.specs.Prelude.{◌&&◌, ◌||◌, ◌==◌, nat_lt, nat_le, option_map, slice_get, if◌then◌else◌}
use Rattle.std.specs.Str.{bytes_eq}
use Rattle.std.proofs.lemmas.Bool.{cases_Bool, false_from_ne_true}
use Rattle.std.proofs.lemmas.Bool.Decides.{nat_tests, Decides-eqb}
use Rattle.std.proofs.lemmas.List.{drop-map, length-map, length-take-le, reverse-append, take-map}
use Rattle.std.proofs.lemmas.Option.{slice_get_within}
use Rattle.sqlite_trees.proofs.ListLemmas.{filter-map}
use Rattle.sqlite_rules.specs.Lists.{Has}
use Rattle.pid_file.specs.declared.path.Path.{Path}
use Rattle.pid_file.specs.declared.path.Path.TheVariants.{Vendor, Device, Subsystem, Class, Subclass, ProgIf, Generic}
use Rattle.pid_ident.specs.PathTexts.{path_text}
use Rattle.pid_moderation.specs.ChangePages.{start_text}
use Rattle.pid_moderation.specs.Views.{Views}
use Rattle.pid_moderation.specs.Submissions.{Standing}
use Rattle.pid_moderation.specs.PendingPages.{standings_from}
use Rattle.pid_moderation.specs.SubmissionPages.{Search, Listing, listing_in, is_before, is_wanted, is_sought, listings_before, last_number, unless_first, next_before, first_sought, submissions_of, submission_page_of, listed_of}
use Rattle.pid_moderation.specs.declared.lists.Listed.{Listed}
use Rattle.pid_moderation.specs.declared.lists.SubmissionPage.{SubmissionPage}
use Rattle.pid_tables.specs.Lists.ByNumber.{standings_at}
use Rattle.pid_tables.specs.Lists.Steps.SubmissionRows.{WantedRows, StandsFor, end_number, is_any_or, is_asked, last_before, latest_asked, next_after, numbers_among}
use Rattle.pid_tables.proofs.OfLists.FallingLemmas.{filter_reverse, map_reverse, filter_same_on, filter_twice, take_reverse, up_to, above, standings_count, first_left}
use Rattle.pid_tables.proofs.OfLists.NumberLemmas.{read_again}
use Rattle.pid_tables.proofs.OfLists.PendingLists.{in_standing, standings_are}
use Rattle.pid_tables.proofs.OfLists.SubmissionLists.{latest_there}

-- ---- what is wanted, by its text

any_is : (wanted : Option (List ℕ)) (asked text : List ℕ) → StandsFor wanted asked → is_any_or asked text ≡ is_wanted wanted text
any_is None asked text is = ap (λ t. bytes_eq t [] || bytes_eq text t) is
any_is (Some wanted) asked text is = ap (λ t. bytes_eq t [] || bytes_eq text t) is.0 ∙ ap (λ b. b || bytes_eq text wanted) is.1

no_empty_text : (p : Path) → bytes_eq (path_text p) [] ≡ false
no_empty_text (Vendor v) = refl
no_empty_text (Device v d) = refl
no_empty_text (Subsystem v d s e) = refl
no_empty_text (Class c) = refl
no_empty_text (Subclass c s) = refl
no_empty_text (ProgIf c s p) = refl
no_empty_text (Generic v d) = refl

-- the text of a path, or the empty one
pub path_stands : (wanted : Option Path) (text : List ℕ) → text ≡ start_text wanted → StandsFor (option_map path_text wanted) text
path_stands None text is = is
path_stands (Some p) text is = (is, no_empty_text p)

-- ---- the last number that is looked at

pub last_within : (count before : ℕ) → last_before count before ≤ count
last_within count before = go (before == 0) refl (nat_lt count before) refl
  where
    go : (a : Bool) → (before == 0) ≡ a → (b : Bool) → nat_lt count before ≡ b → (if a || b then count else before - 1) ≤ count
    go true none b above = omega arith
    go false bound true above = omega arith
    go false bound false above = grind (arith, nat_tests)

-- below the bound are those up to it
pub before_is : (count before n : ℕ) → n ≤ count → (before == 0 || nat_lt n before) ≡ nat_le n (last_before count before)
before_is count before n within = go (before == 0) refl (nat_lt count before) refl
  where
    go : (a : Bool) → (before == 0) ≡ a → (b : Bool) → nat_lt count before ≡ b → (a || nat_lt n before) ≡ nat_le n (if a || b then count else before - 1)
    go true none b above = grind (arith, nat_tests)
    go false bound true above = grind (arith, nat_tests)
    go false bound false above = grind (arith, nat_tests)

either_part : (n k : ℕ) → (n ≡ (n - k) + k) ⊎ ((n - k ≡ 0) × (n ≤ k))
either_part n k = elim (cases_Bool (nat_le k n)) [ inl fits ↦ inl (grind (arith, nat_tests)) | inr short ↦ inr (grind (arith, nat_tests), grind (arith, nat_tests)) ]

reordered : (a b c : Bool) → (a && (b && c)) ≡ ((b && a) && c)
reordered true true c = refl
reordered true false c = refl
reordered false true c = refl
reordered false false c = refl

last_pushed : (d : ℕ) (xs : List Listing) (l : Listing) → last_number d (xs ++ l ∷ []) ≡ l.number
last_pushed d [] l = refl
last_pushed d (x ∷ xs) l = last_pushed x.number xs l

last_turned : (d : ℕ) (l : Listing) (xs : List Listing) → last_number d (reverse (l ∷ xs)) ≡ l.number
last_turned d l xs = ap (last_number d) (reverse-append (l ∷ []) xs) ∙ last_pushed d (reverse xs) l

-- ---- the end of a page

last_at : (d : ℕ) (x : Listed) (xs : List Listed) (y : Listed) → slice_get (x ∷ xs) (length xs) ≡ Some y → last_number d (map listed_of (x ∷ xs)) ≡ y.number
last_at d x [] y h = let same : x ≡ y = cc in ap (λ (l : Listed). l.number) same
last_at d x (z ∷ xs) y h = last_at x.number z xs y h

pub end_full : (page : List Listed) (x : Listed) (lowest : ℕ) → slice_get page (length page - 1) ≡ Some x → length page ≡ 100 → x.number ≡ end_number 100 (map listed_of page) lowest
end_full [] x lowest h full = absurd (omega (arith, full))
end_full (z ∷ page) x lowest h full =
    let at : length (z ∷ page) - 1 ≡ length page = omega arith in
    let many : (length (map listed_of (z ∷ page)) == 100) ≡ true = let same = length-map (z ∷ page) listed_of in grind (arith, nat_tests) in
    sym (ap (λ b. if b then last_number 0 (map listed_of (z ∷ page)) else lowest) many ∙ last_at 0 z page x (ap (slice_get (z ∷ page)) (sym at) ∙ h))

pub end_short : (page : List Listed) (lowest : ℕ) → (length page ≡ 100 → ⊥) → lowest ≡ end_number 100 (map listed_of page) lowest
end_short page lowest short =
    let few : (length (map listed_of page) == 100) ≡ false = false_from_ne_true _ (λ full. short (sym (length-map page listed_of) ∙ (Decides-eqb (length (map listed_of page)) 100).0 full)) in
    sym (ap (λ b. if b then last_number 0 (map listed_of page) else lowest) few)

pub end_none : (page : List Listed) (lowest : ℕ) → slice_get page (length page - 1) ≡ None → lowest ≡ end_number 100 (map listed_of page) lowest
end_none [] lowest none = refl
end_none (z ∷ page) lowest none = absurd (nothing_last z page (let at : length (z ∷ page) - 1 ≡ length page = omega arith in ap (slice_get (z ∷ page)) (sym at) ∙ none))
  where
    nothing_last : (z : Listed) (page : List Listed) → slice_get (z ∷ page) (length page) ≡ None → ⊥
    nothing_last z [] h = let none : ⊥ = cc in none
    nothing_last z (y ∷ page) h = nothing_last y page h

-- ---- the rows that a page looks at

module _ (v : Views) (search : Search) (asked : WantedRows) (searched : ℕ) (last_is : asked.last ≡ last_before (length v.submits) search.before) (low_is : asked.low ≡ asked.last - searched) where
  abbrev all : List (ℕ × Standing)
  all = standings_from 1 v.submits v.state

  abbrev some : List (ℕ × Standing)
  some = standings_from 1 (take asked.last v.submits) v.state

  abbrev reached : List (ℕ × Standing)
  reached = drop asked.low some

  abbrev looked : List Listing
  looked = take searched (listings_before search.before v)

  within : (e : ℕ × Standing) → Has all e → e.0 ≤ length v.submits
  within e h = let it = standings_are v.submits v.state 1 e h in let low = slice_get_within v.submits it.0 e.1.submitted it.2 in omega (arith, it.1, low)

  few : asked.last ≤ length v.submits
  few = subst (λ n. n ≤ length v.submits) (sym last_is) (last_within (length v.submits) search.before)

  some_are : filter (λ (e : ℕ × Standing). nat_le e.0 asked.last) all ≡ some
  some_are = up_to v.state 1 asked.last asked.last v.submits (omega arith)

  below_are : listings_before search.before v ≡ reverse (map (listing_in v) some)
  below_are =
      filter_reverse (is_before search.before) (map (listing_in v) all)
      ∙ ap reverse (filter-map (is_before search.before) (listing_in v) all
      ∙ ap (map (listing_in v)) (filter_same_on (λ e. is_before search.before (listing_in v e)) (λ (e : ℕ × Standing). nat_le e.0 asked.last) all (λ e h. before_is (length v.submits) search.before e.0 (within e h) ∙ ap (nat_le e.0) (sym last_is))
      ∙ some_are))

  so_many : length (map (listing_in v) some) ≡ asked.last
  so_many = length-map some (listing_in v) ∙ standings_count v.state 1 (take asked.last v.submits) ∙ length-take-le asked.last v.submits few

  parts : (length (map (listing_in v) some) ≡ asked.low + searched) ⊎ ((asked.low ≡ 0) × (length (map (listing_in v) some) ≤ searched))
  parts = elim (either_part asked.last searched) [ inl fits ↦ inl (so_many ∙ fits ∙ ap (λ n. n + searched) (sym low_is)) | inr short ↦ inr (low_is ∙ short.0, omega (arith, so_many, short.1)) ]

  looked_is : looked ≡ reverse (map (listing_in v) reached)
  looked_is = ap (take searched) below_are ∙ take_reverse searched asked.low (map (listing_in v) some) parts ∙ ap reverse (drop-map (listing_in v) asked.low some)

  module _ (path : StandsFor (option_map path_text search.path) asked.path) (author : StandsFor search.author asked.author) where
    test_is : (e : ℕ × Standing) → is_asked asked e ≡ ((nat_le e.0 asked.last && nat_lt asked.low e.0) && is_sought search (listing_in v e))
    test_is e =
        (λ i. nat_lt asked.low e.0 && (nat_le e.0 asked.last && (any_is (option_map path_text search.path) asked.path (path_text e.1.submitted.path) path i && any_is search.author asked.author e.1.submitted.author author i)))
        ∙ reordered (nat_lt asked.low e.0) (nat_le e.0 asked.last) (is_sought search (listing_in v e))

    asked_are : filter (is_asked asked) all ≡ filter (λ e. is_sought search (listing_in v e)) reached
    asked_are =
        filter_same_on (is_asked asked) (λ e. (nat_le e.0 asked.last && nat_lt asked.low e.0) && is_sought search (listing_in v e)) all (λ e h. test_is e)
        ∙ sym (filter_twice (λ e. is_sought search (listing_in v e)) (λ e. nat_le e.0 asked.last && nat_lt asked.low e.0) all)
        ∙ ap (filter (λ e. is_sought search (listing_in v e))) (sym (filter_twice (λ (e : ℕ × Standing). nat_lt asked.low e.0) (λ (e : ℕ × Standing). nat_le e.0 asked.last) all)
        ∙ ap (filter (λ (e : ℕ × Standing). nat_lt asked.low e.0)) some_are ∙ above v.state 1 asked.low asked.low (take asked.last v.submits) (omega arith))

    found_are : (most : ℕ) → map (listing_in v) (latest_asked most asked v) ≡ first_sought most search looked
    found_are most =
        sym (take-map (listing_in v) most (reverse (filter (is_asked asked) all)))
        ∙ ap (take most) (map_reverse (listing_in v) (filter (is_asked asked) all) ∙ ap reverse (ap (map (listing_in v)) asked_are ∙ sym (filter-map (is_sought search) (listing_in v) reached))
        ∙ sym (filter_reverse (is_sought search) (map (listing_in v) reached)))
        ∙ ap (first_sought most search) (sym looked_is)

  -- where a page ends that is not full
  lowest_is : 1 ≤ searched → unless_first (asked.low + 1) ≡ unless_first (last_number 0 looked)
  lowest_is some_searched = elim (cases_Bool (nat_lt asked.low asked.last)) [
    | inl less ↦
        let size : length (take asked.last v.submits) ≡ asked.last = length-take-le asked.last v.submits few in
        let under : asked.low < length (take asked.last v.submits) = grind (arith, nat_tests) in
        let first = first_left v.state 1 asked.low (take asked.last v.submits) under in
        let start : asked.low + 1 ≡ first.0.0 = omega (arith, first.3) in
        let turned : last_number 0 (reverse (listing_in v first.0 ∷ map (listing_in v) first.1)) ≡ first.0.0 = last_turned 0 (listing_in v first.0) (map (listing_in v) first.1) in
        ap unless_first (start ∙ sym turned ∙ ap (λ l. last_number 0 (reverse (map (listing_in v) l))) (sym first.2) ∙ ap (last_number 0) (sym looked_is))
    | inr none ↦
        let low = low_is in
        let nothing : asked.last ≡ 0 = grind (arith, nat_tests) in
        let bottom : asked.low ≡ 0 = omega (arith, low, nothing) in
        ap (λ n. unless_first (n + 1)) bottom ∙ sym (ap (λ l. unless_first (last_number 0 l)) (looked_is ∙ ap (λ n. reverse (map (listing_in v) (drop asked.low (standings_from 1 (take n v.submits) v.state)))) nothing
        ∙ ap (λ n. reverse (map (listing_in v) (drop n []))) bottom))
  ]

  -- the page of the rows that were read
  pub page_is : (most : ℕ) (page : SubmissionPage) (numbers : List ℕ) → 1 ≤ searched → StandsFor (option_map path_text search.path) asked.path → StandsFor search.author asked.author → numbers ≡ numbers_among (latest_asked most asked v)
      → map listed_of page.submissions.items ≡ map (listing_in v) (standings_at numbers v) → page.before ≡ next_after most (map listed_of page.submissions.items) (asked.low + 1) → submission_page_of page ≡ submissions_of most searched search v
  page_is most page numbers some_searched path author numbered listed next =
      let found = first_sought most search looked in
      let items : map listed_of page.submissions.items ≡ found =
      listed ∙ ap (λ n. map (listing_in v) (standings_at n v)) numbered
      ∙ ap (map (listing_in v)) (read_again v (latest_asked most asked v) (λ e h. in_standing v e (latest_there v most asked e h))) ∙ found_are path author most in
      let before : page.before ≡ next_before most looked found = next ∙ ap (λ l. next_after most l (asked.low + 1)) items ∙ either found (length found == most) in
      λ i. record { before = before i; submissions = items i }
    where
      either : (found : List Listing) (full : Bool) → unless_first (if full then last_number 0 found else asked.low + 1) ≡ unless_first (last_number 0 (if full then found else looked))
      either found true = refl
      either found false = lowest_is some_searched
