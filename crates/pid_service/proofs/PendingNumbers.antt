-- The numbers of what is pending, after each change and page by page.
use Rattle.std.proofs.Common.{◌≡◌, ℕ, zero, suc, ◌+◌, ◌-◌, ◌≤◌, ◌<◌, List, [], ◌∷◌, ◌++◌, length, map, filter, take, drop, get_or, Bool, true, false, cond, None, Some, Option, refl, sym, ap, subst, ◌∙◌, arith, add-one, length-append}
use Rattle.std.specs.Prelude.{◌&&◌, ◌==◌, nat_lt, not, slice_get, option_map, if◌then◌else◌, Vec}
use Rattle.std.specs.declared.alloc.Global.{Global}
use Rattle.std.specs.List.{cons_option}
use Rattle.std.proofs.lemmas.Bool.Decides.{nat_tests}
use Rattle.std.proofs.lemmas.List.{append-nil, append_assoc, length-map, length_push, map-append, take_all, take-append-drop, take-append-le, take-map, take_more}
use Rattle.std.proofs.lemmas.List.Elements.{filter-append}
use Rattle.pid_moderation.specs.declared.change.Effect.TheVariants.{Submitted as Made}
use Rattle.pid_moderation.specs.declared.change.Write.{Write}
use Rattle.pid_moderation.specs.declared.facts.State.{State}
use Rattle.pid_moderation.specs.declared.facts.State.TheVariants.{Pending as PendingState}
use Rattle.pid_moderation.specs.Views.{Submitted}
use Rattle.pid_tables.proofs.OfLists.PageLemmas.{goes_on, next_pending}
use Rattle.pid_tables.proofs.OfLists.PendingLists.{page_in}
use Rattle.pid_service.proofs.Words.{affected, AreStandingIn, AreViews, Change, changed, Decided, Effect, FitsEffect, HoldsPending, is_pending, its_number, keeping, last_of, numbers_pending, Path, Pending, pending_above, pending_in, pending_number, PendingGoOn, Proposal, Receipt, Standing, standings_at, standings_from, submission_at, told_of, Views, waits_above}

-- ---- what a change does

abbrev pending_from : ℕ → List Submitted → (ℕ → State) → List ℕ
pending_from n submits state = map pending_number (filter (waits_above 0) (standings_from n submits state))

-- a receipt changes none of it
pub kept_pending : (r : Option Receipt) (v : Views) → numbers_pending (keeping r v) ≡ numbers_pending v
kept_pending None v = refl
kept_pending (Some r) v = refl

-- what is right about the effect of a change is right about the change
pub still_pending : (change : Change) (v : Views) (numbers : Option (Vec ℕ Global)) → HoldsPending numbers (affected change.revision change.effect v) → HoldsPending numbers (changed change v)
still_pending change v None holds = tt
still_pending change v (Some numbers) holds = holds ∙ sym (kept_pending change.receipt (affected change.revision change.effect v))

one_more : (n m : ℕ) (submits : List Submitted) (s : Submitted) (state : ℕ → State) → m ≡ n + length submits → 1 ≤ n → state m ≡ PendingState → pending_from n (submits ++ s ∷ []) state ≡ pending_from n submits state ++ m ∷ []
one_more n m [] s state is low pending =
    let same : n ≡ m = omega (arith, is) in
    let above : nat_lt 0 n ≡ true = grind (arith, nat_tests) in
    let waits : is_pending (state n) ≡ true = ap (λ k. is_pending (state k)) same ∙ ap is_pending pending in
    (λ i. map pending_number (cond (above i && waits i) ((n, record { submitted = s; state = state n }) ∷ []) [])) ∙ ap (λ k. k ∷ []) same
one_more n m (x ∷ submits) s state is low pending =
    let rest = one_more (n + 1) m submits s state (omega (arith, is)) (omega arith) pending in
    elim (waits_above 0 (n, record { submitted = x; state = state n })) as (λ b. map pending_number
    (cond b ((n, record { submitted = x; state = state n }) ∷ filter (waits_above 0) (standings_from (n + 1) (submits ++ s ∷ []) state)) (filter (waits_above 0) (standings_from (n + 1) (submits ++ s ∷ []) state)))
    ≡ map pending_number (cond b ((n, record { submitted = x; state = state n }) ∷ filter (waits_above 0) (standings_from (n + 1) submits state)) (filter (waits_above 0) (standings_from (n + 1) submits state)))
    ++ m ∷ []) [
      | true ↦ ap (λ l. n ∷ l) rest
      | false ↦ rest
    ]

-- a submission that is made waits, after all others
pub submitted_waits : (v : Views) (number : ℕ) (s : Submitted) → AreViews v → number ≡ length v.submits + 1 → numbers_pending (record v { submits = v.submits ++ s ∷ [] }) ≡ numbers_pending v ++ number ∷ []
submitted_waits v number s views is =
    one_more 1 number v.submits s v.state (omega (arith, is)) (omega arith) (subst (λ n. v.state n ≡ PendingState) (sym is) (views.pending (length v.submits + 1) (past v.submits (length v.submits) refl)))
  where
    past : (submits : List Submitted) (n : ℕ) → n ≡ length submits → submission_at (n + 1) submits ≡ None
    past submits n is = ap (λ k. submission_at k submits) (add-one n) ∙ none submits n is
      where
        none : (submits : List Submitted) (n : ℕ) → n ≡ length submits → slice_get submits n ≡ None
        none [] n is = refl
        none (x ∷ submits) zero is = absurd (omega (arith, is))
        none (x ∷ submits) (suc n) is = none submits n (omega (arith, is))

-- one number is taken away
abbrev others : ℕ → List ℕ → List ℕ
others number numbers = filter (λ n. not (n == number)) numbers

one_decided : (e above : Bool) (n number : ℕ) (st before : State) (new old : List ℕ) → (n == number) ≡ e → is_pending st ≡ false → new ≡ others number old
    → cond (above && is_pending (if e then st else before)) (n ∷ new) new ≡ others number (cond (above && is_pending before) (n ∷ old) old)
one_decided true true n number st before new old at off same =
    elim (is_pending before) as (λ w. cond (true && is_pending st) (n ∷ new) new ≡ others number (cond (true && w) (n ∷ old) old)) [
      | true ↦ ap (λ b. cond b (n ∷ new) new) off ∙ same ∙ sym (ap (λ b. cond (not b) (n ∷ others number old) (others number old)) at)
      | false ↦ ap (λ b. cond b (n ∷ new) new) off ∙ same
    ]
one_decided true false n number st before new old at off same = same
one_decided false true n number st before new old at off same =
    elim (is_pending before) as (λ w. cond (true && w) (n ∷ new) new ≡ others number (cond (true && w) (n ∷ old) old)) [
      | true ↦ ap (λ l. n ∷ l) same ∙ sym (ap (λ b. cond (not b) (n ∷ others number old) (others number old)) at)
      | false ↦ same
    ]
one_decided false false n number st before new old at off same = same

numbers_cond : (b : Bool) (x : ℕ × Standing) (all : List (ℕ × Standing)) → map pending_number (cond b (x ∷ all) all) ≡ cond b (x.0 ∷ map pending_number all) (map pending_number all)
numbers_cond true x all = refl
numbers_cond false x all = refl

decided_from : (n number : ℕ) (st : State) (submits : List Submitted) (state : ℕ → State) → is_pending st ≡ false → pending_from n submits (λ m. if m == number then st else state m) ≡ others number (pending_from n submits state)
decided_from n number st [] state off = refl
decided_from n number st (x ∷ submits) state off =
    let now : ℕ → State = λ m. if m == number then st else state m in
    numbers_cond (waits_above 0 (n, record { submitted = x; state = now n })) (n, record { submitted = x; state = now n }) (filter (waits_above 0) (standings_from (n + 1) submits now))
    ∙ one_decided (n == number) (nat_lt 0 n) n number st (state n) (pending_from (n + 1) submits now) (pending_from (n + 1) submits state) refl off (decided_from (n + 1) number st submits state off)
    ∙ ap (others number) (sym (numbers_cond (waits_above 0 (n, record { submitted = x; state = state n })) (n, record { submitted = x; state = state n }) (filter (waits_above 0) (standings_from (n + 1) submits state))))

-- a submission that is decided waits no more
pub decided_waits : (v w : Views) (number : ℕ) (st : State) → is_pending st ≡ false → w.submits ≡ v.submits → w.state ≡ (λ m. if m == number then st else v.state m) → numbers_pending w ≡ others number (numbers_pending v)
decided_waits v w number st off same states = (λ i. pending_from 1 (same i) (states i)) ∙ decided_from 1 number st v.submits v.state off

-- the same of numbers that are kept

pub submitted_holds : (effect : Effect) (number : ℕ) (author : List ℕ) (path : Path) (proposal : Proposal) (note : List ℕ) → effect ≡ Made number author path proposal note → (n : ℕ) (v : Views) (old new : List ℕ) → AreViews v → FitsEffect effect v
    → old ≡ numbers_pending v → new ≡ old ++ number ∷ [] → new ≡ numbers_pending (affected n effect v)
submitted_holds effect number author path proposal note is n v old new views fits held added =
    let many : number ≡ length v.submits + 1 = subst (λ (e : Effect). FitsEffect e v) is fits in
    added ∙ ap (λ l. l ++ number ∷ []) held ∙ sym (submitted_waits v number (record { author = author; path = path; proposal = proposal; note = note }) views many) ∙ ap (λ (e : Effect). numbers_pending (affected n e v)) (sym is)

pub decided_holds : (effect : Effect) (number : ℕ) (st : State) (w : Option Write) → effect ≡ Decided number st w → (n : ℕ) (v : Views) (old new : List ℕ) → old ≡ numbers_pending v → is_pending st ≡ false → new ≡ filter (λ k. not (k == number)) old
    → new ≡ numbers_pending (affected n effect v)
decided_holds effect number st w is n v old new held off left =
    left ∙ ap (others number) held ∙ sym (decided_waits v (affected n (Decided number st w) v) number st off refl refl) ∙ ap (λ (e : Effect). numbers_pending (affected n e v)) (sym is)

-- ---- pages of it, one after the other

abbrev pub pending_past : ℕ → Views → List ℕ
pending_past after v = map pending_number (pending_above after v)

numbers_told : (page : List Pending) → map its_number page ≡ map pending_number (map told_of page)
numbers_told [] = refl
numbers_told (p ∷ page) = ap (λ l. p.number ∷ l) (numbers_told page)

pub take_short : {X : Type 0} (n : ℕ) (xs : List X) → length (take n xs) < n → take n xs ≡ xs
take_short zero xs low = absurd (omega (arith, low))
take_short (suc n) [] low = refl
take_short (suc n) (x ∷ xs) low = ap (λ l. x ∷ l) (take_short n xs (omega (arith, low)))

-- a page that is not full has all that wait after this number
pub last_page : (v : Views) (most after : ℕ) (page : List Pending) (before : List ℕ) → map told_of page ≡ pending_in most after v → length page < most → before ++ map its_number page ≡ before ++ pending_past after v
last_page v most after page before told short =
    let many : length (pending_in most after v) ≡ length page = sym (ap length told) ∙ length-map page told_of in
    ap (λ l. before ++ l) (numbers_told page ∙ ap (map pending_number) (told ∙ take_short most (pending_above after v) (omega (arith, many, short))))

-- the pages go on, each after the last number of the one before
pub pending_next : PendingGoOn
pending_next most after v = goes_on pending_number (λ behind. pending_above behind v) (next_pending v) most after

-- what waits after the last number of a page comes after it
pub next_page : PendingGoOn → (v : Views) (most after : ℕ) (page : List Pending) (before : List ℕ) → map told_of page ≡ pending_in most after v
    → (before ++ map its_number page) ++ pending_past (last_of pending_number after (map told_of page)) v ≡ before ++ pending_past after v
next_page law v most after page before told =
    let all = pending_above after v in
    let rest : pending_past (last_of pending_number after (map told_of page)) v ≡ map pending_number (drop most all) = ap (λ p. pending_past (last_of pending_number after p) v) told ∙ ap (map pending_number) (law most after v) in
    let head : map its_number page ≡ map pending_number (take most all) = numbers_told page ∙ ap (map pending_number) told in
    (λ i. (before ++ head i) ++ rest i) ∙ append_assoc before (map pending_number (take most all)) (map pending_number (drop most all))
    ∙ ap (λ l. before ++ l) (sym (map-append pending_number (take most all) (drop most all)) ∙ ap (map pending_number) (take-append-drop most all))

-- the same of their counts

pub last_count : (v : Views) (most after : ℕ) (page : List Pending) (before : ℕ) → map told_of page ≡ pending_in most after v → length page < most → before + length page ≡ before + length (pending_above after v)
last_count v most after page before told short =
    let many : length (pending_in most after v) ≡ length page = sym (ap length told) ∙ length-map page told_of in
    ap (λ n. before + n) (sym many ∙ ap length (take_short most (pending_above after v) (omega (arith, many, short))))

pub next_count : PendingGoOn → (v : Views) (most after : ℕ) (page : List Pending) (before : ℕ) → map told_of page ≡ pending_in most after v
    → (before + length page) + length (pending_above (last_of pending_number after (map told_of page)) v) ≡ before + length (pending_above after v)
next_count law v most after page before told =
    let all = pending_above after v in
    let many : length page ≡ length (take most all) = sym (length-map page told_of) ∙ ap length told in
    let rest : length (pending_above (last_of pending_number after (map told_of page)) v) ≡ length (drop most all) = ap (λ p. length (pending_above (last_of pending_number after p) v)) told ∙ ap length (law most after v) in
    let both : length all ≡ length (take most all) + length (drop most all) = sym (ap length (take-append-drop most all)) ∙ length-append (take most all) (drop most all) in
    omega (arith, many, rest, both)

-- the last one of a page
pub last_is : (page : List Pending) (n after : ℕ) (p : Pending) → n + 1 ≡ length page → slice_get page n ≡ Some p → last_of pending_number after (map told_of page) ≡ p.number
last_is [] n after p many is = absurd (omega (arith, many))
last_is (x ∷ []) zero after p many is = let same : x ≡ p = cc in ap its_number same
last_is (x ∷ []) (suc n) after p many is = absurd (omega (arith, many))
last_is (x ∷ y ∷ page) zero after p many is = absurd (omega (arith, many))
last_is (x ∷ y ∷ page) (suc n) after p many is = last_is (y ∷ page) n x.number p (omega (arith, many)) is

pub last_told : (page : List Pending) (after : ℕ) (p : Pending) → slice_get page (length page - 1) ≡ Some p → last_of pending_number after (map told_of page) ≡ p.number
last_told [] after p is = absurd (let bad : ⊥ = cc in bad)
last_told (x ∷ page) after p is = last_is (x ∷ page) (length (x ∷ page) - 1) after p (omega arith) is

-- ---- a page by its numbers

two_tests : {X : Type 0} (f : X → Bool) (b c : Bool) (x : X) (few more : List X) → filter f few ≡ more → (b && f x) ≡ c → filter f (cond b (x ∷ few) few) ≡ cond c (x ∷ more) more
two_tests f true c x few more same is = λ i. cond (is i) (x ∷ same i) (same i)
two_tests f false c x few more same is = same ∙ ap (λ b. cond b (x ∷ more) more) is

both_tests : (a z w : Bool) → (a ≡ true → z ≡ true) → ((z && w) && a) ≡ (a && w)
both_tests true true true low = refl
both_tests true true false low = refl
both_tests true false w low = absurd (let no : ◌≡◌ {A = Bool} false true = low refl in let bad : ⊥ = cc in bad)
both_tests false true true low = refl
both_tests false true false low = refl
both_tests false false true low = refl
both_tests false false false low = refl

filter_twice : (after : ℕ) (all : List (ℕ × Standing)) → filter (λ s. nat_lt after (pending_number s)) (filter (waits_above 0) all) ≡ filter (waits_above after) all
filter_twice after [] = refl
filter_twice after (s ∷ all) =
    two_tests (λ t. nat_lt after (pending_number t)) (waits_above 0 s) (waits_above after s) s (filter (waits_above 0) all) (filter (waits_above after) all) (filter_twice after all)
    (both_tests (nat_lt after s.0) (nat_lt 0 s.0) (is_pending s.1.state) (λ on. grind (arith, nat_tests)))

filter_numbers : (after : ℕ) (all : List (ℕ × Standing)) → filter (nat_lt after) (map pending_number all) ≡ map pending_number (filter (λ s. nat_lt after (pending_number s)) all)
filter_numbers after [] = refl
filter_numbers after (s ∷ all) =
    elim (nat_lt after s.0) as (λ b. cond b (s.0 ∷ filter (nat_lt after) (map pending_number all)) (filter (nat_lt after) (map pending_number all))
    ≡ map pending_number (cond b (s ∷ filter (λ t. nat_lt after (pending_number t)) all) (filter (λ t. nat_lt after (pending_number t)) all))) [
      | true ↦ ap (λ l. s.0 ∷ l) (filter_numbers after all)
      | false ↦ filter_numbers after all
    ]

-- what stands under these numbers is what they are taken of
stand_there : (v : Views) (all : List (ℕ × Standing)) → AreStandingIn v all → standings_at (map pending_number all) v ≡ all
stand_there v [] there = refl
stand_there v (s ∷ all) there = (λ i. cons_option (option_map (λ t. (s.0, t)) (there.0 i)) (standings_at (map pending_number all) v)) ∙ ap (λ l. s ∷ l) (stand_there v all there.1)

-- a page by the first numbers above this one
pub page_numbered : (v : Views) (most after : ℕ) (numbers page : List ℕ) → numbers ≡ numbers_pending v → page ≡ take most (filter (nat_lt after) numbers) → standings_at page v ≡ pending_in most after v
page_numbered v most after numbers page all is =
    let same : page ≡ map pending_number (pending_in most after v) =
    is ∙ ap (λ l. take most (filter (nat_lt after) l)) all ∙ ap (take most) (filter_numbers after (pending_above 0 v) ∙ ap (map pending_number) (filter_twice after (standings_from 1 v.submits v.state))) ∙ take-map pending_number most (pending_above after v) in
    ap (λ l. standings_at l v) same ∙ stand_there v (pending_in most after v) (page_in v after most)

-- a loop that takes the first numbers above another

take_few : {X : Type 0} (n : ℕ) (xs : List X) → length (take n xs) ≤ length xs
take_few zero xs = omega arith
take_few (suc n) [] = omega arith
take_few (suc n) (x ∷ xs) = let few = take_few n xs in omega (arith, few)

one_farther : (after : ℕ) (numbers : List ℕ) (i d : ℕ) → i < length numbers → filter (nat_lt after) (take (i + 1) numbers) ≡ filter (nat_lt after) (take i numbers) ++ cond (nat_lt after (get_or numbers i d)) (get_or numbers i d ∷ []) []
one_farther after numbers i d low = ap (filter (nat_lt after)) (take_more numbers i d low) ∙ filter-append (nat_lt after) (take i numbers) (get_or numbers i d ∷ [])

pub one_above : (most after : ℕ) (numbers : List ℕ) (i d : ℕ) (page : List ℕ) → i < length numbers → page ≡ take most (filter (nat_lt after) (take i numbers)) → nat_lt after (get_or numbers i d) ≡ true → length page < most
    → page ++ get_or numbers i d ∷ [] ≡ take most (filter (nat_lt after) (take (i + 1) numbers))
one_above most after numbers i d page low is above room =
    let x = get_or numbers i d in
    let so_far = filter (nat_lt after) (take i numbers) in
    let short : length (take most so_far) < most = subst (λ (l : List ℕ). length l < most) is room in
    let same : page ≡ so_far = is ∙ take_short most so_far short in
    let more : filter (nat_lt after) (take (i + 1) numbers) ≡ so_far ++ x ∷ [] = one_farther after numbers i d low ∙ ap (λ b. so_far ++ cond b (x ∷ []) []) above in
    let many : length (so_far ++ x ∷ []) ≡ length so_far + 1 = length_push so_far x in
    let few : length so_far ≡ length page = ap length (sym same) in
    ap (λ l. l ++ x ∷ []) same ∙ sym (take_all most (so_far ++ x ∷ []) (omega (arith, many, few, room))) ∙ ap (take most) (sym more)

pub not_above : (most after : ℕ) (numbers : List ℕ) (i d : ℕ) (page : List ℕ) → i < length numbers → page ≡ take most (filter (nat_lt after) (take i numbers)) → nat_lt after (get_or numbers i d) ≡ false → page ≡ take most (filter (nat_lt after) (take (i + 1) numbers))
not_above most after numbers i d page low is below =
    let x = get_or numbers i d in
    let so_far = filter (nat_lt after) (take i numbers) in
    let more : filter (nat_lt after) (take (i + 1) numbers) ≡ so_far = one_farther after numbers i d low ∙ ap (λ b. so_far ++ cond b (x ∷ []) []) below ∙ append-nil so_far in
    is ∙ ap (take most) (sym more)

pub page_full : (most after : ℕ) (numbers : List ℕ) (i d : ℕ) (page : List ℕ) → i < length numbers → page ≡ take most (filter (nat_lt after) (take i numbers)) → most ≤ length page → page ≡ take most (filter (nat_lt after) (take (i + 1) numbers))
page_full most after numbers i d page low is full =
    let x = get_or numbers i d in
    let so_far = filter (nat_lt after) (take i numbers) in
    let few = take_few most so_far in
    let many : length page ≡ length (take most so_far) = ap length is in
    is ∙ sym (take-append-le most so_far (cond (nat_lt after x) (x ∷ []) []) (omega (arith, few, many, full))) ∙ ap (take most) (sym (one_farther after numbers i d low))

-- one number more of a page
pub one_added : (old : List ℕ) (page : List Pending) (i : ℕ) (p : Pending) (numbers now : List ℕ) → i < length page → get_or page i p ≡ p → numbers ≡ old ++ map its_number (take i page) → now ≡ numbers ++ p.number ∷ []
    → now ≡ old ++ map its_number (take (i + 1) page)
one_added old page i p numbers now low is so more =
    let taken : take (i + 1) page ≡ take i page ++ p ∷ [] = take_more page i p low ∙ ap (λ (q : Pending). take i page ++ q ∷ []) is in
    more ∙ ap (λ (l : List ℕ). l ++ p.number ∷ []) so ∙ append_assoc old (map its_number (take i page)) (p.number ∷ [])
    ∙ ap (λ (l : List ℕ). old ++ l) (sym (ap (map its_number) taken ∙ map-append its_number (take i page) (p ∷ [])))
