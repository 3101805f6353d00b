-- What a run of a list promises is what sessions ask of it.
use Rattle.std.proofs.Common.{◌≡◌, ◌⊎◌, inl, inr, ℕ, zero, suc, ◌+◌, ◌<◌, List, [], ◌∷◌, ◌++◌, length, take, drop, add-one, Option, Some, None, refl, sym, subst, ap, ◌∙◌, arith}
use Rattle.std.specs.Prelude.{IsSomeAnd}
use Rattle.pid_service_laws.proofs.SessionLaws as sessions
use Rattle.pid_service_laws.proofs.Joining.{after_more}
use Rattle.pid_service.specs.Histories.{IsMemoryOrStore}
use Rattle.pid_service.specs.Sessions.{showing}
use Rattle.pid_service.proofs.Words.{after, after_all, Asked, EndsRun, FailsBetween, Ghosts, History, Refusal, Registry, RunReport, Runs, Shows}

-- the next command, behind the first ones
record IsNext (commands : List Asked) (n : ℕ) (c : Asked) : Type 0 where
  pub more : n < length commands
  pub taken : take (n + 1) commands ≡ take n commands ++ c ∷ []

next_taken : (commands : List Asked) (n : ℕ) (c : Asked) (rest : List Asked) → drop n commands ≡ c ∷ rest → (n < length commands) × (take (suc n) commands ≡ take n commands ++ c ∷ [])
next_taken [] zero c rest is = absurd (let no : ⊥ = cc in no)
next_taken [] (suc n) c rest is = absurd (let no : ⊥ = cc in no)
next_taken (x ∷ commands) zero c rest is = let same : x ≡ c = cc in (omega arith, ap (λ y. y ∷ []) same)
next_taken (x ∷ commands) (suc n) c rest is = let below = next_taken commands n c rest is in let low = below.0 in (omega (arith, low), ap (λ l. x ∷ l) below.1)

is_next : (commands : List Asked) (n : ℕ) (c : Asked) (rest : List Asked) → drop n commands ≡ c ∷ rest → IsNext commands n c
is_next commands n c rest is = let next = next_taken commands n c rest is in record { more = next.0; taken = ap (λ k. take k commands) (add-one n) ∙ next.1 }

module _ {S : Type 0} (database : Ghosts S) where
  -- it failed at the next command
  record FailsNext (fault : Option Refusal) (rest : List Asked) (r : Registry S database) (h : History) : Type 0 where
    pub is_fault : IsSomeAnd fault IsMemoryOrStore
    pub next : Asked
    pub behind : List Asked
    pub is_next : rest ≡ next ∷ behind
    pub fails : FailsBetween database r h (after h next)

  ended : (fault : Option Refusal) (rest : List Asked) (r : Registry S database) (h : History) → EndsRun database fault rest r h → Shows database r h ⊎ FailsNext fault rest r h
  ended None [] r h ends = inl ends
  ended None (c ∷ rest) r h ends = absurd ends
  ended (Some e) [] r h ends = absurd ends
  ended (Some e) (c ∷ rest) r h (fault, inl shows) = inl shows
  ended (Some e) (c ∷ rest) r h (fault, inr fails) = inr (record { is_fault = fault; next = c; behind = rest; is_next = refl; fails = fails })

  pub run_sessions : (report : RunReport) (r : Registry S database) (h : History) (commands : List Asked) → Runs database report r h commands → sessions.ListLeaves (showing database) report.replies.items report.fault r h commands
  run_sessions report r h commands runs =
      let n = length report.replies.items in
      let so_far = after_all h (take n commands) in
      record {
        replied = runs.replied;
        ends = elim (ended report.fault (drop n commands) r so_far runs.ends) [
          | inl shows ↦ inl shows
          | inr failed ↦
              let next = is_next commands n failed.next failed.behind failed.is_next in
              inr (
                failed.is_fault,
                next.more,
                subst (λ (g : History). FailsBetween database r so_far g) (sym (ap (after_all h) next.taken ∙ after_more (take n commands) h (failed.next ∷ []))) failed.fails,
              )
        ];
      }
