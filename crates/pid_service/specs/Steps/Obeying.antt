-- What a command leaves, for those that call its steps.
use Rattle.std.specs.Prelude.{◌≡◌, ◌≢◌, ◌⊎◌, Bool, false, Result, Ok, MatchResult}
use Rattle.pid_moderation.specs.declared.command.Reply.{Reply}
use Rattle.pid_moderation.specs.declared.refusal.Refusal.{Refusal}
use Rattle.pid_moderation.specs.declared.refusal.Refusal.TheVariants.{Failed}
use Rattle.pid_moderation.specs.History.{Asked, History}
use Rattle.pid_moderation.specs.Judgement.{after}
use Rattle.pid_tables.specs.declared.database.Database.{Ghosts}
use Rattle.pid_service.specs.declared.judging.Judged.{Judged}
use Rattle.pid_service.specs.declared.registry.Registry.{Registry}
use Rattle.pid_service.specs.Histories.{IsMemoryOrStore, IsReached, Shows}
use Rattle.pid_service.specs.Registries.{HasCleanDisk, KeepsLimit, is_live}
use Rattle.pid_service.specs.Steps.Judging.{JudgesCommand}

-- The registry is as live as before. Or the answer is not that it had failed, and memory ran out
-- or the store failed.
abbrev pub StaysLive : {X : Type 0} → Result X Refusal → (before after : Bool) → Type 0
StaysLive result before after = MatchResult result (λ _. after ≡ before)
    (λ e. (e ≢ Failed) × (IsMemoryOrStore e ⊎ (after ≡ before)))

module _ {S : Type 0} (database : Ghosts S) where
  -- the registry shows a history, over which this comes of the command, and it can go on
  pub record ComesOf (r : Registry S database) (judged : Judged) (h : History)
      (c : Asked) : Type 0 where
    pub shows : Shows database r h
    pub reached : IsReached (after h c)
    pub comes : JudgesCommand h c (Ok judged)

  -- this holds of each such history and command
  abbrev pub WhereComes : Registry S database → Judged → (History → Asked → Type 0) → Type 0
  WhereComes r judged Holds = (h : History) (c : Asked) → ComesOf r judged h c → Holds h c

  -- the reply was answered, and the registry is as live as before; or it has failed
  pub record LivesOrFails (result : Result Reply Refusal) (old new : Registry S database)
      : Type 0 where
    pub clean : HasCleanDisk database new → HasCleanDisk database old
    pub live : MatchResult result (λ _. is_live new ≡ is_live old)
        (λ e. IsMemoryOrStore e × (is_live new ≡ false))
    pub limit : KeepsLimit database old new
