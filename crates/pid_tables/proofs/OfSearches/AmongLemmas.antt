-- What is sought among numbers that are read the last one first.
use Rattle.std.proofs.Common.{◌≡◌, ℕ, zero, suc, ◌+◌, ◌-◌, ◌<◌, ◌≤◌, List, [], ◌∷◌, ◌++◌, length, map, filter, take, drop, reverse, get_or, Bool, true, false, cond, None, Some, Option, refl, sym, ap, ◌∙◌, arith, add-one, append-nil}
use Rattle.std.specs.Prelude.{option_map}
use Rattle.std.specs.List.{cons_option}
use Rattle.std.proofs.lemmas.List.{get_or-reverse, length-append, length-map, length-reverse, map-append, take-append-drop, take-append-le, take_all}
use Rattle.std.proofs.lemmas.List.Elements.{filter-append, filter_map-append}
use Rattle.pid_file.specs.declared.path.Path.{Path}
use Rattle.pid_moderation.specs.SubmissionPages.{Listing, is_sought, listed_of, listing_in}
use Rattle.pid_moderation.specs.Submissions.{Standing, standing_in}
use Rattle.pid_moderation.specs.Views.{Views}
use Rattle.pid_moderation.specs.declared.lists.Listed.{Listed}
use Rattle.pid_tables.specs.Lists.ByNumber.{standing_at, standings_at}
use Rattle.pid_tables.specs.Searches.Steps.Among.{found_among, search_for}

taken_more : (numbers : List ℕ) (i d : ℕ) → i < length numbers → take (suc i) numbers ≡ take i numbers ++ get_or numbers i d ∷ []
taken_more [] i d low = absurd (omega (arith, low))
taken_more (n ∷ numbers) zero d low = refl
taken_more (n ∷ numbers) (suc i) d low = ap (λ l. n ∷ l) (taken_more numbers i d (omega (arith, low)))

module _ (path : Option Path) (author : Option (List ℕ)) (v : Views) where
  abbrev found : List ℕ → List Listing
  found numbers = found_among path author numbers v

  abbrev sought : Listing → Bool
  sought = is_sought (search_for path author)

  -- the listing with a number, if there is one
  abbrev at_number : ℕ → Option Standing → List Listing
  at_number n o = map (listing_in v) (cons_option (option_map (λ (s : Standing). (n, s)) o) [])

  among_both : (a b : List ℕ) → found (a ++ b) ≡ found a ++ found b
  among_both a b =
      ap (λ l. filter sought (map (listing_in v) l)) (filter_map-append (standing_at v) a b)
      ∙ ap (filter sought) (map-append (listing_in v) (standings_at a v) (standings_at b v))
      ∙ filter-append sought (map (listing_in v) (standings_at a v)) (map (listing_in v) (standings_at b v))

  -- ---- one number

  filter_few : (p : Listing → Bool) (xs : List Listing) → length xs ≤ 1 → length (filter p xs) ≤ 1
  filter_few p [] few = omega arith
  filter_few p (x ∷ []) few = elim (p x) as (λ b. length (cond b (x ∷ []) []) ≤ 1) [
    | true ↦ omega arith
    | false ↦ omega arith
  ]
  filter_few p (x ∷ y ∷ xs) few = absurd (omega (arith, few))

  one_few : (n : ℕ) (o : Option Standing) → length (at_number n o) ≤ 1
  one_few n None = omega arith
  one_few n (Some s) = omega arith

  few_found : (n : ℕ) → length (found (n ∷ [])) ≤ 1
  few_found n = filter_few sought (at_number n (standing_in v n)) (one_few n (standing_in v n))

  of_standing : (n : ℕ) (o : Option Standing) → standing_in v n ≡ o → found (n ∷ []) ≡ filter sought (at_number n o)
  of_standing n o is = ap (λ (o : Option Standing). filter sought (at_number n o)) is

  pub none_there : (n : ℕ) → standing_in v n ≡ None → found (n ∷ []) ≡ []
  none_there n is = of_standing n None is

  pub of_another : (n : ℕ) (s : Standing) → standing_in v n ≡ Some s → sought (listing_in v (n, s)) ≡ false → found (n ∷ []) ≡ []
  of_another n s is other = of_standing n (Some s) is ∙ ap (λ b. cond b (listing_in v (n, s) ∷ []) []) other

  pub one_found : (n : ℕ) (s : Standing) → standing_in v n ≡ Some s → sought (listing_in v (n, s)) ≡ true → found (n ∷ []) ≡ listing_in v (n, s) ∷ []
  one_found n s is it = of_standing n (Some s) is ∙ ap (λ b. cond b (listing_in v (n, s) ∷ []) []) it

  -- nothing is added
  pub none_more : (page : List Listed) (n : ℕ) → found (n ∷ []) ≡ [] → map listed_of page ≡ map listed_of page ++ found (n ∷ [])
  none_more page n none = sym (append-nil (map listed_of page)) ∙ ap (λ l. map listed_of page ++ l) (sym none)

  -- ---- a page of them

  module _ (numbers : List ℕ) where
    abbrev turned : List ℕ
    turned = reverse numbers

    -- the page has what is sought among so many, and is not too long
    abbrev pub HasFirst : ℕ → List Listed → Type 0
    HasFirst i page = (map listed_of page ≡ found (take i turned)) × (length page ≤ 100)

    pub one_more : (i number d : ℕ) (old new : List Listed) → number ≡ get_or numbers (length numbers - 1 - i) d → i < length numbers → (length old ≡ 100 → ⊥) → HasFirst i old → map listed_of new ≡ map listed_of old ++ found (number ∷ []) → HasFirst (i + 1) new
    one_more i number d old new is low short (has, few) added =
        let long : i < length turned = let same = length-reverse numbers in omega (arith, low, same) in
        let here : get_or turned i d ≡ number = get_or-reverse numbers i d low ∙ sym is in
        let steps : found (take (i + 1) turned) ≡ found (take i turned) ++ found (number ∷ []) =
        ap (λ k. found (take k turned)) (add-one i) ∙ ap found (taken_more turned i d long) ∙ among_both (take i turned) (get_or turned i d ∷ []) ∙ ap (λ n. found (take i turned) ++ found (n ∷ [])) here in
        let size : length new ≡ length old + length (found (number ∷ [])) = sym (length-map new listed_of) ∙ ap length added ∙ length-append (map listed_of old) (found (number ∷ [])) ∙ ap (λ n. n + length (found (number ∷ []))) (length-map old listed_of) in
        (added ∙ ap (λ l. l ++ found (number ∷ [])) has ∙ sym steps, let most = few_found number in omega (arith, size, most, few, short))

    pub page_full : (i : ℕ) (page : List Listed) → length page ≡ 100 → HasFirst i page → map listed_of page ≡ take 100 (found turned)
    page_full i page full (has, few) =
        let size : length (found (take i turned)) ≡ 100 = sym (ap length has) ∙ length-map page listed_of ∙ full in
        let parts : found turned ≡ found (take i turned) ++ found (drop i turned) = ap found (sym (take-append-drop i turned)) ∙ among_both (take i turned) (drop i turned) in
        has ∙ sym (take_all 100 (found (take i turned)) (omega (arith, size))) ∙ sym (take-append-le 100 (found (take i turned)) (found (drop i turned)) (omega (arith, size))) ∙ ap (take 100) (sym parts)

    pub page_whole : (i : ℕ) (page : List Listed) → length numbers ≤ i → HasFirst i page → map listed_of page ≡ take 100 (found turned)
    page_whole i page done (has, few) =
        let all : found (take i turned) ≡ found turned = ap found (take_all i turned (let same = length-reverse numbers in omega (arith, done, same))) in
        let size : length (found turned) ≡ length page = sym (ap length (has ∙ all)) ∙ length-map page listed_of in
        has ∙ all ∙ sym (take_all 100 (found turned) (omega (arith, size, few)))
