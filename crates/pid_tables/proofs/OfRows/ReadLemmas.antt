-- What a query leaves.
use Rattle.std.proofs.Common.{◌≡◌, ◌⊎◌, inl, inr, ℕ, List, None, Some, Option, IsTrue, cond, sym, ap, subst, ◌∙◌}
use Rattle.sqlite.specs.Order.{Row}
use Rattle.sqlite.specs.Listing.{understood}
use Rattle.sqlite_schema.specs.declared.command.Returning.{Returning}
use Rattle.sqlite.specs.State.{State, IsUnchanged, IsRolledBack, Shown, ShowsRows, FailsToQuery, FailsToShow, IsNotRun, IsTooLate}
use Rattle.sqlite.specs.Clock.{timed}
use Rattle.sqlite.specs.declared.error.Error.{Error}
use Rattle.sqlite.proofs.Callers.{IsPlain}
use Rattle.pid_moderation.specs.Views.{Views}
use Rattle.pid_tables.specs.declared.rows.schema_version.Version.{Version}
use Rattle.pid_tables.specs.Rows.Schema.{schema_of}
use Rattle.pid_tables.specs.Rows.Shows.{Counts, Numbers, ShowsKeeping}

pub not_run : (old new : State) (sql : List ℕ) (params : Row) (e : Error) → IsNotRun old new sql params e → IsUnchanged old new ⊎ IsRolledBack old new
unfolding IsNotRun
not_run old new sql params e (inl refused) = inl refused.1
not_run old new sql params e (inr fails) = inr fails.3

pub fails_to_query : (sql : List ℕ) (params : Row) (old new : State) (e : Error) → FailsToQuery sql params old new e → IsUnchanged old new ⊎ IsRolledBack old new
unfolding FailsToQuery
fails_to_query sql params old new e (inl not_it) = not_run old new sql params e not_it
fails_to_query sql params old new e (inr it) = go it.0.returning it.2
  where
    go : (o : Option Returning) → FailsToShow old new sql it.0 (timed params it.0.formats it.1.now) e o → IsUnchanged old new ⊎ IsRolledBack old new
    go None h = inl h.3
    go (Some what) (inl refused) = inl refused.1
    go (Some what) (inr fails) = inr fails.3

-- a plain query changes nothing
pub shown_same : (sql : List ℕ) (params : Row) (old new : State) (rows : List Row) → IsPlain (understood old.now.schema sql) → Shown sql params old new rows → IsUnchanged old new
unfolding Shown
shown_same sql params old new rows plain h =
    let none = (subst IsPlain h.1.is plain).0 in
    let it = subst (ShowsRows old new sql h.0 (timed params h.0.formats h.1.now) rows) none h.2 in
    it.3

kept_same : (old new : State) → IsUnchanged old new ⊎ IsRolledBack old new → IsTrue new.is_open → IsTrue old.is_open × (new.committed ≡ old.committed)
kept_same old new (inl same) opened = (same.0.was_open, same.0.committed_is)
kept_same old new (inr back) opened = (back.was_open opened, (back.undone opened).1)

-- what a text that may be of any kind leaves, in a transaction
pub record Passes (old new : State) : Type 0 where
  pub was_open : IsTrue old.is_open
  pub is_open : IsTrue new.is_open
  pub committed : IsTrue old.in_transaction → new.committed ≡ old.committed
  pub mode : new.in_transaction ≡ old.in_transaction

pub shown_passes : (sql : List ℕ) (params : Row) (old new : State) (rows : List Row) → Shown sql params old new rows → Passes old new
unfolding Shown
shown_passes sql params old new rows h = go h.0.returning h.2
  where
    go : (o : Option Returning) → ShowsRows old new sql h.0 (timed params h.0.formats h.1.now) rows o → Passes old new
    go None it = let s = it.3.0 in record { was_open = s.was_open; is_open = s.is_open; committed = λ _. s.committed_is; mode = s.mode }
    go (Some what) it =
        let s = it.1.shown in
        record { was_open = s.was_open; is_open = s.is_open; committed = λ inside. s.committed_is ∙ ap (λ b. cond b old.committed new.now) inside; mode = s.mode }

pub fails_keeping : (sql : List ℕ) (params : Row) (old new : State) (e : Error) → FailsToQuery sql params old new e ⊎ IsTooLate sql params old new e → IsTrue new.is_open
    → IsTrue old.is_open × (new.committed ≡ old.committed)
fails_keeping sql params old new e (inl fails) opened = kept_same old new (fails_to_query sql params old new e fails) opened
fails_keeping sql params old new e (inr late) opened = let same = late.5 in (same.0.was_open, same.0.committed_is)

-- the tables show what they showed
pub shows_still : {version : Version} {numbers : Numbers} (sql : List ℕ) (params : Row) (old new : State) (rows : List Row) (c : Counts) (v : Views) → IsPlain (understood (schema_of version) sql)
    → ShowsKeeping version c numbers old.now v → Shown sql params old new rows → ShowsKeeping version c numbers new.now v
shows_still {version = version} {numbers = numbers} sql params old new rows c v plain shows h =
    let same = shown_same sql params old new rows (subst (λ s. IsPlain (understood s sql)) (sym shows.schema) plain) h in
    subst (λ d. ShowsKeeping version c numbers d v) (sym same.0.now_is) shows
