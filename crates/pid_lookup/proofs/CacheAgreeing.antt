-- What a cache agrees with before a call, it agrees with afterwards.
use Rattle.std.proofs.Common.{◌≡◌, ℕ, List, Option, Some, None, ◌⊎◌, Contains, IfSome, sym, ap, subst, ◌∙◌, inl, inr}
use Rattle.std.specs.Str.{bytes_eq}
use Rattle.std.specs.Cmp.Lexicographic.{bytes_decides}
use Rattle.std.specs.Result.{IfOk, OnOk, OnErr}
use Rattle.std.specs.declared.result.Result.{Result}
use Rattle.std.specs.declared.result.Result.TheVariants.{Ok, Err}
use Rattle.lru.specs.LruCache.{LruCache, lru_cache, put_entries}
use Rattle.lru.proofs.CallerLemmas.{Contains-lookup, Contains-promoted, Contains-put_entries}
use Rattle.pid_lookup.specs.declared.name_cache.TheConstants.{CAPACITY}
use Rattle.pid_lookup.specs.CacheEntries.{Entries, entry_at, used, with_answer}
use Rattle.pid_lookup.specs.CacheAgreement.{Agrees}

module _ (at : List ℕ → Option (List ℕ)) (text : List ℕ) (entries : Entries) (agreed : Agrees entries at) where
  pub used_agrees : Agrees (used text entries) at
  used_agrees = record { known = λ entry there. agreed.known entry (Contains-promoted (bytes_eq text) entries entry there) }

  module _ (answer : Option (List ℕ)) (right : at text ≡ answer) where
    still_known : (entry : List ℕ × Option (List ℕ)) → Contains (with_answer text answer entries) entry → at entry.0 ≡ entry.1
    still_known entry there = elim (Contains-put_entries bytes_eq (lru_cache entries CAPACITY) text answer entry there) [
      | inl before ↦ agreed.known entry before
      | inr (same, inl new) ↦ ap at new ∙ right ∙ sym same
      | inr (same, inr (old, before, equal)) ↦ ap at (sym ((bytes_decides text entry.0).0 equal)) ∙ right ∙ sym same
    ]

    pub put_agrees : Agrees (with_answer text answer entries) at
    put_agrees = record { known = still_known }

  found_right : (found : Option (Option (List ℕ))) → found ≡ entry_at text entries → IfSome found (λ name. name ≡ at text)
  found_right None is = tt
  found_right (Some name) is =
      let (key, there, equal) = Contains-lookup (bytes_eq text) entries name (sym is) in
      sym (agreed.known (key, name) there) ∙ ap at (sym ((bytes_decides text key).0 equal))

  pub answer_right : {E : Type 0} (result : Result (Option (Option (List ℕ))) E) → IfOk result (λ found. found ≡ entry_at text entries) → IfOk result (λ found. IfSome found (λ name. name ≡ at text))
  answer_right (Ok found) is = found_right found is
  answer_right (Err e) is = tt

-- what a put ends as
abbrev pub Outcome : List ℕ → Option (List ℕ) → Entries → Entries → Type 0
Outcome text answer old new = (new ≡ with_answer text answer old) ⊎ (new ≡ old)

pub put_outcome : {E : Type 0} (text : List ℕ) (answer : Option (List ℕ)) (old new : LruCache (List ℕ) (Option (List ℕ))) (result : Result (Option (Option (List ℕ))) E)
    → old.cap ≡ CAPACITY
    → OnOk result (new ≡ lru_cache (put_entries bytes_eq old text answer) old.cap)
    → OnErr result (new ≡ old)
    → Outcome text answer old.entries new.entries
put_outcome text answer old new (Ok before) cap kept refused = inl (ap (λ c. c.entries) kept ∙ ap (λ n. put_entries bytes_eq (lru_cache old.entries n) text answer) cap)
put_outcome text answer old new (Err e) cap kept refused = inr (ap (λ c. c.entries) refused)

pub outcome_agrees : (at : List ℕ → Option (List ℕ)) (text : List ℕ) (answer : Option (List ℕ)) (old new : Entries) → Agrees old at → at text ≡ answer → Outcome text answer old new → Agrees new at
outcome_agrees at text answer old new agreed right (inl kept) = subst (λ (entries : Entries). Agrees entries at) (sym kept) (put_agrees at text old agreed answer right)
outcome_agrees at text answer old new agreed right (inr same) = subst (λ (entries : Entries). Agrees entries at) (sym same) agreed
