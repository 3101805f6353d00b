-- The accounts of a history are those that have a rank in its views.
use Rattle.std.proofs.Common.{◌≡◌, ℕ, Bool, true, false, cond, List, [], ◌∷◌, length, Option, Some, None, refl, sym, ap, ◌∙◌}
use Rattle.std.specs.Prelude.{◌||◌, is_some, codes}
use Rattle.std.specs.List.{AllByRecursion, IsDistinct, list_any}
use Rattle.std.specs.Cmp.{IsEquivalence, both_ways}
use Rattle.std.specs.Str.{bytes_eq}
use Rattle.std.proofs.lemmas.Map.Made.{length-from_same_keys}
use Rattle.std.proofs.lemmas.Slice.Eq.{bytes_eq-Decides}
use Rattle.pid_moderation.specs.declared.rank.Rank.{Rank}
use Rattle.pid_moderation.specs.History.{Deed, Ranks, Submits, Comments, Withdraws, Approves, Rejects, Imports, Begins, More, History}
use Rattle.pid_moderation.specs.Views.{Views, views_of, ranked, rank_of}
use Rattle.pid_moderation.specs.RegistryStatus.{RegistryStatus, with_account, accounts_of, status_in, status_of_registry, AreRanked, IsStatusIn}

none_of : (who : List ℕ) (names : List (List ℕ)) → list_any (bytes_eq who) names ≡ false → AllByRecursion (λ name. bytes_eq who name ≡ false) names
none_of who [] h = tt
none_of who (name ∷ names) h = go (bytes_eq who name) refl h (none_of who names)
  where
    go : (b : Bool) → bytes_eq who name ≡ b → (b || list_any (bytes_eq who) names) ≡ false → (list_any (bytes_eq who) names ≡ false → AllByRecursion (λ other. bytes_eq who other ≡ false) names)
        → AllByRecursion (λ other. bytes_eq who other ≡ false) (name ∷ names)
    go true is h later = absurd (let bad : ⊥ = cc in bad)
    go false is h later = (is, later h)

one_more : (deed : Deed) (names : List (List ℕ)) → IsDistinct bytes_eq names → IsDistinct bytes_eq (with_account deed names)
unfolding IsDistinct
one_more (Ranks who rank) names once = go (list_any (bytes_eq who) names) refl
  where
    go : (b : Bool) → list_any (bytes_eq who) names ≡ b → IsDistinct bytes_eq (cond b names (who ∷ names))
    go true is = once
    go false is = (none_of who names is, once)
one_more (Submits path proposal note) names once = once
one_more (Comments n text) names once = once
one_more (Withdraws n) names once = once
one_more (Approves n e) names once = once
one_more (Rejects n reason) names once = once
one_more (Imports reading) names once = once

pub each_once : (h : History) → IsDistinct bytes_eq (accounts_of h)
unfolding IsDistinct
each_once (Begins mark) = (tt, tt)
each_once (More e h) = one_more e.asked.deed (accounts_of h) (each_once h)

module _ (a : List ℕ) where
  abbrev Fit : Option Rank → List (List ℕ) → Type 0
  Fit rank names = is_some rank ≡ list_any (bytes_eq a) names

  ranked_fits : (deed : Deed) (rank : Option Rank) (names : List (List ℕ)) → Fit rank names → Fit (ranked a deed rank) (with_account deed names)
  ranked_fits (Ranks who new) rank names fit = go (bytes_eq a who) refl (list_any (bytes_eq who) names) refl
    where
      go : (b : Bool) → bytes_eq a who ≡ b → (there : Bool) → list_any (bytes_eq who) names ≡ there
          → is_some (cond b (Some new) rank) ≡ list_any (bytes_eq a) (cond there names (who ∷ names))
      go true is true there = let same : a ≡ who = (bytes_eq-Decides a who).0 is in sym (ap (λ w. list_any (bytes_eq w) names) same ∙ there)
      go true is false there = sym (ap (λ b. b || list_any (bytes_eq a) names) is)
      go false is true there = fit
      go false is false there = fit ∙ sym (ap (λ b. b || list_any (bytes_eq a) names) is)
  ranked_fits (Submits path proposal note) rank names fit = fit
  ranked_fits (Comments n text) rank names fit = fit
  ranked_fits (Withdraws n) rank names fit = fit
  ranked_fits (Approves n e) rank names fit = fit
  ranked_fits (Rejects n reason) rank names fit = fit
  ranked_fits (Imports reading) rank names fit = fit

  root_fits : (b : Bool) (rank : Rank) → is_some (cond b (Some rank) None) ≡ (b || false)
  root_fits true rank = refl
  root_fits false rank = refl

  all_ranked : (h : History) → Fit (rank_of a h) (accounts_of h)
  all_ranked (Begins mark) = root_fits (bytes_eq a (codes "root")) Rattle.pid_moderation.specs.declared.rank.Rank.TheVariants.Administrator
  all_ranked (More e h) = ranked_fits e.asked.deed (rank_of a h) (accounts_of h) (all_ranked h)

pub are_accounts : (h : History) → AreRanked (views_of h) (accounts_of h)
are_accounts h = record { once = each_once h; ranked = λ a. all_ranked a h }

bytes_laws : IsEquivalence bytes_eq
bytes_laws = record {
  refl = λ x. (bytes_eq-Decides x x).1 refl;
  symm = λ x y. both_ways (bytes_eq x y) (bytes_eq y x) (λ h. (bytes_eq-Decides y x).1 (sym ((bytes_eq-Decides x y).0 h))) (λ h. (bytes_eq-Decides x y).1 (sym ((bytes_eq-Decides y x).0 h)));
  congr = λ x y z h. let same : x ≡ y = (bytes_eq-Decides x y).0 h in ap (λ w. bytes_eq w z) same;
}

-- lists of the same accounts are of one length
pub as_many : (v : Views) (names others : List (List ℕ)) → AreRanked v names → AreRanked v others → length names ≡ length others
as_many v names others one two = length-from_same_keys bytes_laws names others one.once two.once (λ a. sym (one.ranked a) ∙ two.ranked a)

pub is_its_status : (h : History) (status : RegistryStatus) → IsStatusIn (views_of h) status → status ≡ status_of_registry h
is_its_status h status it = it.2 ∙ ap (λ n. status_in n (views_of h)) (as_many (views_of h) it.0 (accounts_of h) it.1 (are_accounts h))

pub has_its_status : (h : History) (status : RegistryStatus) → status ≡ status_of_registry h → IsStatusIn (views_of h) status
has_its_status h status is = (accounts_of h, are_accounts h, is)
