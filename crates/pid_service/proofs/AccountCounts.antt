-- How many accounts there are, after each change.
use Rattle.std.proofs.Common.{◌≡◌, ℕ, ◌+◌, Bool, true, false, cond, List, [], ◌∷◌, length, Option, Some, None, refl, sym, ap, subst, ◌∙◌, add-one}
use Rattle.std.specs.Prelude.{◌||◌, IfSome, is_none, is_some}
use Rattle.std.specs.List.{AllByRecursion, IsDistinct, list_any}
use Rattle.std.specs.Str.{bytes_eq}
use Rattle.std.proofs.lemmas.Slice.Eq.{bytes_eq-Decides}
use Rattle.pid_service.proofs.Words.{affected, Change, changed, Effect, FitsEffect, HasAccounts, HoldsAccounts, keeping, Rank, Ranked, Receipt, Views}

-- they are the same where no rank is another one
pub same_accounts : (accounts : Option ℕ) (v w : Views) → w.rank ≡ v.rank → HoldsAccounts accounts v → HoldsAccounts accounts w
same_accounts None v w same holds = tt
same_accounts (Some n) v w same holds = (holds.0, record { once = holds.1.once; ranked = λ a. ap (λ (r : List ℕ → Option Rank). is_some (r a)) same ∙ holds.1.ranked a }, holds.2)

-- a receipt changes none of it
kept_ranks : (r : Option Receipt) (v : Views) → (keeping r v).rank ≡ v.rank
kept_ranks None v = refl
kept_ranks (Some r) v = refl

-- what is right about the effect of a change is right about the change
pub still_accounts : (change : Change) (v : Views) (accounts : Option ℕ) → HoldsAccounts accounts (affected change.revision change.effect v) → HoldsAccounts accounts (changed change v)
still_accounts change v accounts holds = same_accounts accounts (affected change.revision change.effect v) (changed change v) (kept_ranks change.receipt (affected change.revision change.effect v)) holds

none_of : (who : List ℕ) (names : List (List ℕ)) → list_any (bytes_eq who) names ≡ false → AllByRecursion (λ name. bytes_eq who name ≡ false) names
none_of who [] h = tt
none_of who (name ∷ names) h = go (bytes_eq who name) refl h (none_of who names)
  where
    go : (b : Bool) → bytes_eq who name ≡ b → (b || list_any (bytes_eq who) names) ≡ false → (list_any (bytes_eq who) names ≡ false → AllByRecursion (λ other. bytes_eq who other ≡ false) names)
        → AllByRecursion (λ other. bytes_eq who other ≡ false) (name ∷ names)
    go true is h later = absurd (let bad : ⊥ = cc in bad)
    go false is h later = (is, later h)

not_there : (o : Option Rank) → is_none o ≡ true → is_some o ≡ false
not_there None none = refl
not_there (Some rank) none = absurd (let bad : ⊥ = cc in bad)

is_there : (o : Option Rank) → is_none o ≡ false → is_some o ≡ true
is_there None some = absurd (let bad : ⊥ = cc in bad)
is_there (Some rank) some = refl

once_more : (who : List ℕ) (names : List (List ℕ)) → list_any (bytes_eq who) names ≡ false → IsDistinct bytes_eq names → IsDistinct bytes_eq (who ∷ names)
unfolding IsDistinct
once_more who names none once = (none_of who names none, once)

new_fits : (b : Bool) (rank : Rank) (was : Option Rank) (there : Bool) → is_some was ≡ there → is_some (cond b (Some rank) was) ≡ (b || there)
new_fits true rank was there fit = refl
new_fits false rank was there fit = fit

module _ (v : Views) (who : List ℕ) (rank : Rank) where
  -- an account that had no rank is one more
  one_more : (n : ℕ) → is_none (v.rank who) ≡ true → HasAccounts v n → HasAccounts (record v { rank = λ a. cond (bytes_eq a who) (Some rank) (v.rank a) }) (n + 1)
  one_more n none has = (
    who ∷ has.0,
    record {
      once = once_more who has.0 (sym (has.1.ranked who) ∙ not_there (v.rank who) none) has.1.once;
      ranked = λ a. new_fits (bytes_eq a who) rank (v.rank a) (list_any (bytes_eq a) has.0) (has.1.ranked a);
    },
    ap (λ k. k + 1) has.2 ∙ add-one (length has.0),
  )

  old_fits : (names : List (List ℕ)) → is_some (v.rank who) ≡ true → ((a : List ℕ) → is_some (v.rank a) ≡ list_any (bytes_eq a) names) → (a : List ℕ) → is_some (cond (bytes_eq a who) (Some rank) (v.rank a)) ≡ list_any (bytes_eq a) names
  old_fits names there fit a = go (bytes_eq a who) refl
    where
      go : (b : Bool) → bytes_eq a who ≡ b → is_some (cond b (Some rank) (v.rank a)) ≡ list_any (bytes_eq a) names
      go true is = let same : a ≡ who = (bytes_eq-Decides a who).0 is in sym (ap (λ w. list_any (bytes_eq w) names) same ∙ (sym (fit who) ∙ there))
      go false is = fit a

  -- and one that had one is none more
  no_more : (n : ℕ) → is_none (v.rank who) ≡ false → HasAccounts v n → HasAccounts (record v { rank = λ a. cond (bytes_eq a who) (Some rank) (v.rank a) }) n
  no_more n some has = (has.0, record { once = has.1.once; ranked = old_fits has.0 (is_there (v.rank who) some) has.1.ranked }, has.2)

-- the same of a change

pub new_account : (effect : Effect) (who : List ℕ) (rank : Rank) (is_new : Bool) → effect ≡ Ranked who rank is_new → is_new ≡ true → (m : ℕ) (v : Views) (n more : ℕ) → FitsEffect effect v → more ≡ n + 1 → HasAccounts v n → HasAccounts (affected m effect v) more
new_account effect who rank is_new is new m v n more fits count has =
    let fit : is_new ≡ is_none (v.rank who) = subst (λ (e : Effect). FitsEffect e v) is fits in
    subst (λ (e : Effect). HasAccounts (affected m e v) more) (sym is) (subst (λ (k : ℕ). HasAccounts (affected m (Ranked who rank is_new) v) k) (sym count) (one_more v who rank n (sym fit ∙ new) has))

pub old_account : (effect : Effect) (who : List ℕ) (rank : Rank) (is_new : Bool) → effect ≡ Ranked who rank is_new → is_new ≡ false → (m : ℕ) (v : Views) (n : ℕ) → FitsEffect effect v → HasAccounts v n → HasAccounts (affected m effect v) n
old_account effect who rank is_new is old m v n fits has =
    let fit : is_new ≡ is_none (v.rank who) = subst (λ (e : Effect). FitsEffect e v) is fits in
    subst (λ (e : Effect). HasAccounts (affected m e v) n) (sym is) (no_more v who rank n (sym fit ∙ old) has)

pub one_counted : (o : Option ℕ) (n : ℕ) (v : Views) → IfSome o (λ k. k ≡ n + 1) → HasAccounts v (n + 1) → HoldsAccounts o v
one_counted None n v is has = tt
one_counted (Some k) n v is has = subst (λ (m : ℕ). HasAccounts v m) (sym is) has
