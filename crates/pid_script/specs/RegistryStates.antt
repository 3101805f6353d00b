-- What calls make of a registry: `registry` is `R.RegistryCalls`, which says what it shows.
use Rattle.std.specs.Prelude.{◌≡◌, ◌⊎◌, List, [], ◌∷◌, false}
use Rattle.pid_moderation.specs.History.{Asked, History}
use Rattle.pid_moderation.specs.Judgement.{after}
use Rattle.pid_service_laws.specs.declared.registry_calls.RegistryCalls.{Ghosts}

module _ {R : Type 0} (registry : Ghosts R) where
  -- it is live and shows the history, or it has failed earlier
  abbrev pub ShowsOrHasFailed : R → History → Type 0
  ShowsOrHasFailed r h = registry.showing.shows r h ⊎ (registry.is_live r ≡ false)

  -- while the disk returns what was written, this holds of the history that the registry showed
  abbrev pub OverStanding : R → R → (History → Type 0) → Type 0
  OverStanding old new Holds = registry.showing.is_clean new
      → (h : History) → ShowsOrHasFailed old h → Holds h

  -- if it showed the one history, it shows the other now; if it had failed, it is as before
  pub record Becomes (old : R) (h : History) (new : R) (next : History) : Type 0 where
    pub shows : registry.showing.shows old h → registry.showing.shows new next
    pub failed : registry.is_live old ≡ false → new ≡ old

  -- it shows the one or the other, or it has failed and all that a crash may leave shows one of
  -- them
  abbrev pub ShowsEither : R → History → History → Type 0
  ShowsEither r first second = registry.showing.shows r first
      ⊎ (registry.showing.shows r second ⊎ registry.showing.fails_between r first second)

  -- the same, if it may not be known which of the two histories it is
  pub record BecomesEither (old : R) (h : History) (new : R) (first second : History) : Type 0 where
    pub shows : registry.showing.shows old h → ShowsEither new first second
    pub failed : registry.is_live old ≡ false → new ≡ old

  -- it has failed at the command of a line, which has one at most: a crash leaves the history
  -- before it or the one after it
  abbrev pub FailsAt : R → History → List Asked → Type 0
  FailsAt r h [] = ⊥
  FailsAt r h (c ∷ cs) = registry.showing.fails_between r h (after h c)

  -- What a stop leaves: if the registry showed the one history, it now shows the other, which is
  -- the one before the line of the stop, or it has failed at the command of that line, which may
  -- have been written. If it had failed earlier, it is as before.
  pub record StopsAfter (old : R) (h : History) (new : R) (before : History)
      (commands : List Asked) : Type 0 where
    pub shows : registry.showing.shows old h
        → registry.showing.shows new before ⊎ FailsAt new before commands
    pub failed : registry.is_live old ≡ false → new ≡ old
