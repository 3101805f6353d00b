-- The numbers of a path or of an author leave out no submission that is sought.
use Rattle.std.proofs.Common.{◌≡◌, ℕ, zero, suc, ◌+◌, ◌<◌, ◌≤◌, List, [], ◌∷◌, length, map, filter, take, reverse, Bool, true, false, cond, None, Some, Option, refl, sym, ap, subst, ◌∙◌, arith}
use Rattle.std.specs.Prelude.{◌&&◌, ◌||◌, ◌==◌, nat_lt, option_map, slice_index_or}
use Rattle.std.specs.List.{AllByRecursion, cons_option}
use Rattle.std.specs.List.Sorted.{IsNonDecreasing, IsPartitionedBy}
use Rattle.std.specs.Str.{bytes_eq}
use Rattle.std.proofs.lemmas.Bool.Decides.{nat_tests}
use Rattle.std.proofs.lemmas.List.Sorted.{IsPermutation-reverse, IsPermutation-sym}
use Rattle.sqlite_rules.specs.Lists.{Has}
use Rattle.sqlite_rules.proofs.ListLemmas.{has_filtered}
use Rattle.sqlite_trees.proofs.ListLemmas.{filter-map}
use Rattle.pid_file.specs.declared.path.Path.{Path}
use Rattle.pid_ident.specs.PathTexts.{path_text}
use Rattle.pid_moderation.specs.declared.facts.State.{State}
use Rattle.pid_moderation.specs.PendingPages.{standings_from}
use Rattle.pid_moderation.specs.SubmissionPages.{Listing, all_listings, is_before, is_sought, listing_in}
use Rattle.pid_moderation.specs.Submissions.{Standing, standing_in}
use Rattle.pid_moderation.specs.Views.{Views, Submitted}
use Rattle.pid_tables.specs.Lists.ByNumber.{standings_at}
use Rattle.pid_tables.proofs.OfLists.FallingLemmas.{filter_reverse, filter_same_on, filter_twice, map_reverse}
use Rattle.pid_tables.proofs.OfLists.NumberLemmas.{read_again}
use Rattle.pid_tables.proofs.OfLists.PendingLists.{in_standing}
use Rattle.pid_tables.proofs.OfRows.TurnLemmas.{permuted}
use Rattle.pid_tables.specs.Searches.Steps.Among.{IsServing, LeavesOutNone, are_below, found_among, search_for}
use Rattle.pid_tables.specs.Searches.Filings.{filed_as, filings_in}
use Rattle.pid_tables.specs.Searches.KeptNumbers.{AreKeptFor, HoldsNumbers, numbers_named}
use Rattle.pid_tables.specs.declared.searches.numbers.Kept.{Kept}
use Rattle.pid_tables.specs.declared.searches.numbers.Searches.{Searches}
use Rattle.pid_tables.specs.declared.searches.numbers.Searches.TheVariants as searches

-- ---- they rise

at_all : (x : ℕ) (xs : List ℕ) (j d : ℕ) → AllByRecursion (λ n. x ≤ n) xs → j < length xs → x ≤ slice_index_or xs j d
at_all x [] j d all low = absurd (omega (arith, low))
at_all x (y ∷ xs) zero d all low = all.0
at_all x (y ∷ xs) (suc j) d all low = at_all x xs j d all.1 (omega (arith, low))

rising_cons : (x : ℕ) (xs : List ℕ) → AllByRecursion (λ n. x ≤ n) xs → IsNonDecreasing xs → IsNonDecreasing (x ∷ xs)
rising_cons x xs low up zero zero d below within = omega arith
rising_cons x xs low up zero (suc j) d below within = at_all x xs j d low (omega (arith, within))
rising_cons x xs low up (suc i) zero d below within = absurd (omega (arith, below))
rising_cons x xs low up (suc i) (suc j) d below within = up i j d (omega (arith, below)) (omega (arith, within))

all_low : (wanted : List ℕ) (low first : ℕ) (texts : List (List ℕ)) → low ≤ first → AllByRecursion (λ n. low ≤ n) (numbers_named wanted first texts)
all_low wanted low first [] le = tt
all_low wanted low first (t ∷ texts) le =
    let rest = all_low wanted low (first + 1) texts (omega (arith, le)) in
    elim (bytes_eq t wanted) as (λ b. AllByRecursion (λ n. low ≤ n) (cond b (first ∷ numbers_named wanted (first + 1) texts) (numbers_named wanted (first + 1) texts))) [
      | true ↦ (le, rest)
      | false ↦ rest
    ]

pub rises : (wanted : List ℕ) (first : ℕ) (texts : List (List ℕ)) → IsNonDecreasing (numbers_named wanted first texts)
rises wanted first [] = λ i j d below within. absurd (omega (arith, within))
rises wanted first (t ∷ texts) = elim (bytes_eq t wanted) as (λ b. IsNonDecreasing (cond b (first ∷ numbers_named wanted (first + 1) texts) (numbers_named wanted (first + 1) texts))) [
  | true ↦ rising_cons first (numbers_named wanted (first + 1) texts) (all_low wanted first (first + 1) texts (omega arith)) (rises wanted (first + 1) texts)
  | false ↦ rises wanted (first + 1) texts
]

pub parted : (before : ℕ) (numbers : List ℕ) → IsNonDecreasing numbers → IsPartitionedBy (λ n. nat_lt n before) numbers
parted before numbers up i j d below within passes = let more = up i j d below within in grind (arith, nat_tests, more)

-- ---- those before a place that parts them

pub cut_is : (p : ℕ → Bool) (xs : List ℕ) (i : ℕ) → i ≤ length xs → ((k d : ℕ) → k < i → p (slice_index_or xs k d) ≡ true) → ((k d : ℕ) → i ≤ k → k < length xs → p (slice_index_or xs k d) ≡ false) → take i xs ≡ filter p xs
cut_is p [] zero few low high = refl
cut_is p [] (suc i) few low high = absurd (omega (arith, few))
cut_is p (x ∷ xs) zero few low high =
    cut_is p xs zero (omega arith) (λ k d h. absurd (omega (arith, h))) (λ k d from within. high (suc k) d (omega arith) (omega (arith, within)))
    ∙ sym (ap (λ b. cond b (x ∷ filter p xs) (filter p xs)) (high 0 x (omega arith) (omega arith)))
cut_is p (x ∷ xs) (suc i) few low high =
    ap (λ l. x ∷ l) (cut_is p xs i (omega (arith, few)) (λ k d h. low (suc k) d (omega (arith, h))) (λ k d from within. high (suc k) d (omega (arith, from)) (omega (arith, within))))
    ∙ sym (ap (λ b. cond b (x ∷ filter p xs) (filter p xs)) (low 0 x (omega arith)))

-- with a bound
pub bounded : (before : ℕ) (numbers : List ℕ) → (before == 0) ≡ false → filter (λ n. nat_lt n before) numbers ≡ are_below before numbers
bounded before numbers some = ap (λ b. filter (λ n. b || nat_lt n before) numbers) (sym some)

-- with none
pub unbounded : (before : ℕ) (numbers : List ℕ) → (before == 0) ≡ true → numbers ≡ are_below before numbers
unbounded before numbers none = sym (every numbers) ∙ ap (λ b. filter (λ n. b || nat_lt n before) numbers) (sym none)
  where
    every : (xs : List ℕ) → filter (λ n. true) xs ≡ xs
    every [] = refl
    every (x ∷ xs) = ap (λ l. x ∷ l) (every xs)

-- ---- what is sought is in the list of its text

swapped : {X : Type 0} (p q : X → Bool) (xs : List X) → filter p (filter q xs) ≡ filter q (filter p xs)
swapped p q xs = filter_twice p q xs ∙ filter_same_on (λ x. q x && p x) (λ x. p x && q x) xs (λ x h. turned_and (q x) (p x)) ∙ sym (filter_twice q p xs)
  where
    turned_and : (a b : Bool) → (a && b) ≡ (b && a)
    turned_and true true = refl
    turned_and true false = refl
    turned_and false true = refl
    turned_and false false = refl

both_tests : (mine sought : Bool) → (sought ≡ true → mine ≡ true) → (mine && sought) ≡ sought
both_tests true sought in_it = refl
both_tests false true in_it = in_it refl
both_tests false false in_it = refl

module _ (key : Submitted → List ℕ) (wanted : List ℕ) where
  abbrev belongs : ℕ × Standing → Bool
  belongs e = bytes_eq (key e.1.submitted) wanted

  its_numbers : (first : ℕ) (submits : List Submitted) (state : ℕ → State) → numbers_named wanted first (map key submits) ≡ map (λ (e : ℕ × Standing). e.0) (filter belongs (standings_from first submits state))
  its_numbers first [] state = refl
  its_numbers first (s ∷ submits) state =
      elim (bytes_eq (key s) wanted) as (λ b. cond b (first ∷ numbers_named wanted (first + 1) (map key submits)) (numbers_named wanted (first + 1) (map key submits))
      ≡ map (λ (e : ℕ × Standing). e.0) (cond b ((first, record { submitted = s; state = state first }) ∷ filter belongs (standings_from (first + 1) submits state)) (filter belongs (standings_from (first + 1) submits state)))) [
        | true ↦ ap (λ l. first ∷ l) (its_numbers (first + 1) submits state)
        | false ↦ its_numbers (first + 1) submits state
      ]

  module _ (v : Views) where
    abbrev all : List (ℕ × Standing)
    all = standings_from 1 v.submits v.state

    abbrev mine : List (ℕ × Standing)
    mine = filter belongs all

    there : (e : ℕ × Standing) → Has (reverse mine) e → standing_in v e.0 ≡ Some e.1
    there e h = in_standing v e (has_filtered belongs all e (permuted (reverse mine) mine e (IsPermutation-sym _ _ (IsPermutation-reverse mine)) h)).0

    read_back : standings_at (reverse (numbers_named wanted 1 (map key v.submits))) v ≡ reverse mine
    read_back = ap (λ l. standings_at (reverse l) v) (its_numbers 1 v.submits v.state) ∙ ap (λ l. standings_at l v) (sym (map_reverse (λ (e : ℕ × Standing). e.0) mine)) ∙ read_again v (reverse mine) there

    abbrev its_listing : Listing → Bool
    its_listing l = bytes_eq (key l.standing.submitted) wanted

    listed : map (listing_in v) (reverse mine) ≡ filter its_listing (all_listings v)
    listed = map_reverse (listing_in v) mine ∙ ap reverse (sym (filter-map its_listing (listing_in v) all)) ∙ sym (filter_reverse its_listing (map (listing_in v) all))

    pub serves : (path : Option Path) (author : Option (List ℕ)) → ((l : Listing) → is_sought (search_for path author) l ≡ true → its_listing l ≡ true)
        → IsServing path author (numbers_named wanted 1 (map key v.submits)) v
    serves path author in_it =
        let sought : Listing → Bool = is_sought (search_for path author) in
        record {
          rising = rises wanted 1 (map key v.submits);
          whole =
              ap (λ l. filter sought (map (listing_in v) l)) read_back ∙ ap (filter sought) listed ∙ filter_twice sought its_listing (all_listings v)
              ∙ filter_same_on (λ l. its_listing l && sought l) sought (all_listings v) (λ l h. both_tests (its_listing l) (sought l) (in_it l));
        }

first_holds : (a b : Bool) → (a && b) ≡ true → a ≡ true
first_holds true b on = refl
first_holds false b on = on

last_holds : (a b : Bool) → (a && b) ≡ true → b ≡ true
last_holds true b on = on
last_holds false b on = absurd (let bad : ⊥ = cc in bad)

paths_filed : (submits : List Submitted) → map (λ (f : List ℕ × List ℕ). f.0) (map filed_as submits) ≡ map (λ (s : Submitted). path_text s.path) submits
paths_filed [] = refl
paths_filed (s ∷ submits) = ap (λ l. path_text s.path ∷ l) (paths_filed submits)

authors_filed : (submits : List Submitted) → map (λ (f : List ℕ × List ℕ). f.1) (map filed_as submits) ≡ map (λ (s : Submitted). s.author) submits
authors_filed [] = refl
authors_filed (s ∷ submits) = ap (λ l. s.author ∷ l) (authors_filed submits)

-- the list of the path that is named
pub path_serves : (v : Views) (path : Path) (author : Option (List ℕ)) (numbers : List ℕ) → numbers ≡ numbers_named (path_text path) 1 (map (λ (f : List ℕ × List ℕ). f.0) (filings_in v))
    → IsServing (Some path) author numbers v
path_serves v path author numbers are =
    subst (λ l. IsServing (Some path) author l v) (sym (are ∙ ap (numbers_named (path_text path) 1) (paths_filed v.submits)))
    (serves (λ (s : Submitted). path_text s.path) (path_text path) v (Some path) author (λ l sought. first_holds _ _ sought))

-- the list of the author that is named
pub author_serves : (v : Views) (path : Option Path) (author : List ℕ) (numbers : List ℕ) → numbers ≡ numbers_named author 1 (map (λ (f : List ℕ × List ℕ). f.1) (filings_in v))
    → IsServing path (Some author) numbers v
author_serves v path author numbers are =
    subst (λ l. IsServing path (Some author) l v) (sym (are ∙ ap (numbers_named author 1) (authors_filed v.submits)))
    (serves (λ (s : Submitted). s.author) author v path (Some author) (λ l sought. last_holds _ _ sought))

-- ---- those below a bound

module _ (v : Views) (before : ℕ) where
  abbrev below : ℕ → Bool
  below n = before == 0 || nat_lt n before

  abbrev listings : List (ℕ × Standing) → List Listing
  listings = map (listing_in v)

  abbrev with_it : ℕ → Option Standing → List ℕ → List (ℕ × Standing)
  with_it n o rest = cons_option (option_map (λ (s : Standing). (n, s)) o) (standings_at rest v)

  one_below : (n : ℕ) (ns : List ℕ) (o : Option Standing) → standing_in v n ≡ o → (b : Bool) → below n ≡ b → listings (standings_at (filter below ns) v) ≡ filter (is_before before) (listings (standings_at ns v))
      → listings (standings_at (cond b (n ∷ filter below ns) (filter below ns)) v) ≡ filter (is_before before) (listings (standings_at (n ∷ ns) v))
  one_below n ns None is true on rest = ap (λ o. listings (with_it n o (filter below ns))) is ∙ rest ∙ sym (ap (λ o. filter (is_before before) (listings (with_it n o ns))) is)
  one_below n ns None is false off rest = rest ∙ sym (ap (λ o. filter (is_before before) (listings (with_it n o ns))) is)
  one_below n ns (Some s) is true on rest =
      ap (λ o. listings (with_it n o (filter below ns))) is ∙ ap (λ l. listing_in v (n, s) ∷ l) rest
      ∙ sym (ap (λ b. cond b (listing_in v (n, s) ∷ filter (is_before before) (listings (standings_at ns v))) (filter (is_before before) (listings (standings_at ns v)))) on)
      ∙ sym (ap (λ o. filter (is_before before) (listings (with_it n o ns))) is)
  one_below n ns (Some s) is false off rest =
      rest
      ∙ sym (ap (λ b. cond b (listing_in v (n, s) ∷ filter (is_before before) (listings (standings_at ns v))) (filter (is_before before) (listings (standings_at ns v)))) off)
      ∙ sym (ap (λ o. filter (is_before before) (listings (with_it n o ns))) is)

  kept_below : (ns : List ℕ) → listings (standings_at (filter below ns) v) ≡ filter (is_before before) (listings (standings_at ns v))
  kept_below [] = refl
  kept_below (n ∷ ns) = one_below n ns (standing_in v n) refl (below n) refl (kept_below ns)

  pub cut_serves : (path : Option Path) (author : Option (List ℕ)) (numbers some : List ℕ) → (IsNonDecreasing numbers → some ≡ are_below before numbers) → IsServing path author numbers v
      → LeavesOutNone (record { path = path; author = author; before = before }) some v
  cut_serves path author numbers some are serving =
      let sought : Listing → Bool = is_sought (search_for path author) in
      ap (λ l. found_among path author (reverse l) v) (are serving.rising)
      ∙ ap (λ l. filter sought (listings (standings_at l v))) (sym (filter_reverse below numbers))
      ∙ ap (filter sought) (kept_below (reverse numbers))
      ∙ swapped sought (is_before before) (listings (standings_at (reverse numbers) v))
      ∙ ap (filter (is_before before)) serving.whole
      ∙ swapped (is_before before) sought (all_listings v)

-- numbers that are kept
pub kept_numbers : (numbers : Searches) (kept : Kept) (v : Views) → numbers ≡ searches.Kept kept → HoldsNumbers numbers v → AreKeptFor kept (filings_in v)
kept_numbers numbers kept v is holds = subst (λ n. HoldsNumbers n v) is holds
