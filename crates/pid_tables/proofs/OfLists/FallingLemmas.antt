-- Lists that are turned round, filtered and cut; submissions by their numbers, which count on.
use Rattle.std.proofs.Common.{◌≡◌, ◌⊎◌, inl, inr, ℕ, zero, suc, ◌+◌, ◌<◌, ◌≤◌, length, List, [], ◌∷◌, ◌++◌, map, filter, take, drop, reverse, Bool, true, false, cond, refl, sym, ap, ◌∙◌, arith, append-nil}
use Rattle.std.specs.Prelude.{◌&&◌, nat_lt, nat_le}
use Rattle.std.proofs.lemmas.Bool.Decides.{nat_tests}
use Rattle.std.proofs.lemmas.List.{map-append, reverse-append, length-reverse, take-append-le, take-append-drop, take_all, length-drop}
use Rattle.std.proofs.lemmas.List.Elements.{filter-append}
use Rattle.sqlite_rules.specs.Lists.{Has}
use Rattle.pid_moderation.specs.declared.facts.State.{State}
use Rattle.pid_moderation.specs.Views.{Submitted}
use Rattle.pid_moderation.specs.Submissions.{Standing}
use Rattle.pid_moderation.specs.PendingPages.{standings_from}

module _ {X : Type 0} where
  pub filter_reverse : (p : X → Bool) (xs : List X) → filter p (reverse xs) ≡ reverse (filter p xs)
  filter_reverse p [] = refl
  filter_reverse p (x ∷ xs) =
      ap (filter p) (reverse-append (x ∷ []) xs) ∙ filter-append p (reverse xs) (x ∷ []) ∙ ap (λ l. l ++ filter p (x ∷ [])) (filter_reverse p xs) ∙ last_one (p x)
    where
      last_one : (b : Bool) → reverse (filter p xs) ++ cond b (x ∷ []) [] ≡ reverse (cond b (x ∷ filter p xs) (filter p xs))
      last_one true = sym (reverse-append (x ∷ []) (filter p xs))
      last_one false = append-nil (reverse (filter p xs))

  pub map_reverse : {Y : Type 0} (f : X → Y) (xs : List X) → map f (reverse xs) ≡ reverse (map f xs)
  map_reverse f [] = refl
  map_reverse f (x ∷ xs) =
      ap (map f) (reverse-append (x ∷ []) xs) ∙ map-append f (reverse xs) (x ∷ []) ∙ ap (λ l. l ++ f x ∷ []) (map_reverse f xs) ∙ sym (reverse-append (f x ∷ []) (map f xs))

  -- tests that agree on the elements
  pub filter_same_on : (p q : X → Bool) (xs : List X) → ((x : X) → Has xs x → p x ≡ q x) → filter p xs ≡ filter q xs
  filter_same_on p q [] same = refl
  filter_same_on p q (x ∷ xs) same =
      ap (λ b. cond b (x ∷ filter p xs) (filter p xs)) (same x (inl refl)) ∙ ap (λ l. cond (q x) (x ∷ l) l) (filter_same_on p q xs (λ y h. same y (inr h)))

  pub filter_twice : (p q : X → Bool) (xs : List X) → filter p (filter q xs) ≡ filter (λ x. q x && p x) xs
  filter_twice p q [] = refl
  filter_twice p q (x ∷ xs) =
      elim (q x) as (λ b. filter p (cond b (x ∷ filter q xs) (filter q xs)) ≡ cond (b && p x) (x ∷ filter (λ y. q y && p y) xs) (filter (λ y. q y && p y) xs)) [
        | true ↦ ap (λ l. cond (p x) (x ∷ l) l) (filter_twice p q xs)
        | false ↦ filter_twice p q xs
      ]

  -- the first of a list that is turned round are its last ones
  pub take_reverse : (k m : ℕ) (xs : List X) → (length xs ≡ m + k) ⊎ ((m ≡ 0) × (length xs ≤ k)) → take k (reverse xs) ≡ reverse (drop m xs)
  take_reverse k m xs (inl many) =
      let back : length (reverse (drop m xs)) ≡ k = length-reverse (drop m xs) ∙ length-drop m xs ∙ omega (arith, many) in
      ap (λ l. take k (reverse l)) (sym (take-append-drop m xs)) ∙ ap (take k) (reverse-append (take m xs) (drop m xs))
      ∙ take-append-le k (reverse (drop m xs)) (reverse (take m xs)) (omega (arith, back)) ∙ take_all k (reverse (drop m xs)) (omega (arith, back))
  take_reverse k m xs (inr few) =
      take_all k (reverse xs) (omega (arith, length-reverse xs, few.1)) ∙ ap (λ n. reverse (drop n xs)) (sym few.0)

-- ---- numbers count on

module _ (state : ℕ → State) where
  none_up_to : (last n : ℕ) (submits : List Submitted) → last < n → filter (λ (e : ℕ × Standing). nat_le e.0 last) (standings_from n submits state) ≡ []
  none_up_to last n [] low = refl
  none_up_to last n (s ∷ submits) low =
      let no : nat_le n last ≡ false = grind (arith, nat_tests) in
      let rest = none_up_to last (n + 1) submits (omega (arith, low)) in
      ap (λ b. cond b ((n, record { submitted = s; state = state n }) ∷ filter (λ (e : ℕ × Standing). nat_le e.0 last) (standings_from (n + 1) submits state)) (filter (λ (e : ℕ × Standing). nat_le e.0 last) (standings_from (n + 1) submits state))) no ∙ rest

  all_above : (low n : ℕ) (submits : List Submitted) → low < n → filter (λ (e : ℕ × Standing). nat_lt low e.0) (standings_from n submits state) ≡ standings_from n submits state
  all_above low n [] less = refl
  all_above low n (s ∷ submits) less =
      let is : nat_lt low n ≡ true = grind (arith, nat_tests) in
      let rest = all_above low (n + 1) submits (omega (arith, less)) in
      ap (λ b. cond b ((n, record { submitted = s; state = state n }) ∷ filter (λ (e : ℕ × Standing). nat_lt low e.0) (standings_from (n + 1) submits state)) (filter (λ (e : ℕ × Standing). nat_lt low e.0) (standings_from (n + 1) submits state))) is
      ∙ ap (λ l. (n, record { submitted = s; state = state n }) ∷ l) rest

  -- those up to a number are so many
  pub up_to : (n k last : ℕ) (submits : List Submitted) → last + 1 ≡ n + k → filter (λ (e : ℕ × Standing). nat_le e.0 last) (standings_from n submits state) ≡ standings_from n (take k submits) state
  up_to n zero last submits is = none_up_to last n submits (omega (arith, is))
  up_to n (suc k) last [] is = refl
  up_to n (suc k) last (s ∷ submits) is =
      let first : nat_le n last ≡ true = grind (arith, nat_tests) in
      let rest = up_to (n + 1) k last submits (omega (arith, is)) in
      ap (λ b. cond b ((n, record { submitted = s; state = state n }) ∷ filter (λ (e : ℕ × Standing). nat_le e.0 last) (standings_from (n + 1) submits state)) (filter (λ (e : ℕ × Standing). nat_le e.0 last) (standings_from (n + 1) submits state))) first
      ∙ ap (λ l. (n, record { submitted = s; state = state n }) ∷ l) rest

  -- those above a number are all but so many
  pub above : (n k low : ℕ) (submits : List Submitted) → low + 1 ≡ n + k → filter (λ (e : ℕ × Standing). nat_lt low e.0) (standings_from n submits state) ≡ drop k (standings_from n submits state)
  above n zero low submits is = all_above low n submits (omega (arith, is))
  above n (suc k) low [] is = refl
  above n (suc k) low (s ∷ submits) is =
      let not_first : nat_lt low n ≡ false = grind (arith, nat_tests) in
      let rest = above (n + 1) k low submits (omega (arith, is)) in
      ap (λ b. cond b ((n, record { submitted = s; state = state n }) ∷ filter (λ (e : ℕ × Standing). nat_lt low e.0) (standings_from (n + 1) submits state)) (filter (λ (e : ℕ × Standing). nat_lt low e.0) (standings_from (n + 1) submits state))) not_first ∙ rest

  pub standings_count : (n : ℕ) (submits : List Submitted) → length (standings_from n submits state) ≡ length submits
  standings_count n [] = refl
  standings_count n (s ∷ submits) = ap suc (standings_count (n + 1) submits)

  -- the first of them that is left
  pub first_left : (n k : ℕ) (submits : List Submitted) → k < length submits → (e : ℕ × Standing) × (rest : List (ℕ × Standing)) × (drop k (standings_from n submits state) ≡ e ∷ rest) × (e.0 ≡ n + k)
  first_left n k [] low = absurd (omega (arith, low))
  first_left n zero (s ∷ submits) low = ((n, record { submitted = s; state = state n }), standings_from (n + 1) submits state, refl, omega arith)
  first_left n (suc k) (s ∷ submits) low = let it = first_left (n + 1) k submits (omega (arith, low)) in (it.0, it.1, it.2, omega (arith, it.3))
