-- A list of commands, obeyed in order up to a fault.
use Rattle.std.specs.Prelude.{◌≡◌, ◌≢◌, ◌⊎◌, ◌<◌, ◌≤◌, true, false, List, [], ◌∷◌, length, take}
use Rattle.std.specs.Prelude.{drop}
use Rattle.std.specs.Prelude.{map, Option, Some, None, Result, Err}
use Rattle.std.specs.Prelude.{IfErr, IfSome, IsSome, IsSomeAnd}
use Rattle.std.specs.List.{AllByRecursion}
use Rattle.pid_moderation.specs.declared.command.Command.{Command}
use Rattle.pid_moderation.specs.declared.command.Reply.{Reply}
use Rattle.pid_moderation.specs.declared.refusal.Refusal.{Refusal}
use Rattle.pid_moderation.specs.declared.refusal.Refusal.TheVariants.{Failed, Memory}
use Rattle.pid_moderation.specs.History.{Asked, History}
use Rattle.pid_moderation.specs.Judgement.{after, after_all, answers}
use Rattle.pid_moderation.specs.Files.{asks}
use Rattle.pid_tables.specs.declared.database.Database.{Ghosts}
use Rattle.pid_service.specs.declared.registry.Registry.{Registry}
use Rattle.pid_service.specs.declared.running.RunReport.{RunReport}
use Rattle.pid_service.specs.Asking.{MayGive}
use Rattle.pid_service.specs.Histories.{Shows, FailsBetween, IsMemoryOrStore, OverHistory}
use Rattle.pid_service.specs.Obeying.{IsObeyed}
use Rattle.pid_service.specs.Registries.{HasCleanDisk, KeepsLimit, is_live}

-- it does not say that the registry had failed before
abbrev pub ReplyIsNotFailed : Result Reply Refusal → Type 0
ReplyIsNotFailed reply = IfErr reply (λ e. e ≢ Failed)

module _ {S : Type 0} (database : Ghosts S) where
  -- where a list ends: all commands were obeyed; or at the next one memory ran out or the store
  -- failed, and the registry shows the history so far, or has failed between that and the history
  -- after this command
  abbrev pub EndsRun : Option Refusal → List Asked → Registry S database → History → Type 0
  EndsRun None [] r h = Shows database r h
  EndsRun None (c ∷ rest) r h = ⊥
  EndsRun (Some e) [] r h = ⊥
  EndsRun (Some e) (c ∷ rest) r h = IsMemoryOrStore e
      × (Shows database r h ⊎ FailsBetween database r h (after h c))

  -- the replies are the answers to the first commands, so many, and the registry shows the history
  -- after these
  pub record Runs (report : RunReport) (r : Registry S database) (h : History)
      (commands : List Asked) : Type 0 where
    pub replied : report.replies.items ≡ answers h (take (length report.replies.items) commands)
    pub ends : EndsRun report.fault (drop (length report.replies.items) commands) r
        (after_all h (take (length report.replies.items) commands))

  -- from the first registry to the second these were obeyed one after another, as `obey` does it,
  -- with these replies
  abbrev pub ObeysInTurn : List Command → List (Result Reply Refusal) → Registry S database
      → Registry S database → Type 0
  ObeysInTurn [] [] old new = new ≡ old
  ObeysInTurn (command ∷ rest) (reply ∷ replies) old new = (next : Registry S database)
      × IsObeyed database old next command reply × ObeysInTurn rest replies next new
  ObeysInTurn [] (reply ∷ replies) old new = ⊥
  ObeysInTurn (command ∷ rest) [] old new = ⊥

  -- the fault is what the next command was answered, or memory ran out before it
  abbrev pub EndsTurn : Option Refusal → List Command → Registry S database → Registry S database
      → Type 0
  EndsTurn None rest old new = new ≡ old
  EndsTurn (Some e) [] old new = ⊥
  EndsTurn (Some e) (command ∷ rest) old new = IsObeyed database old new command (Err e)
      ⊎ ((e ≡ Memory) × (new ≡ old))

  -- the first commands were obeyed, as many as have a reply, and the list stopped there
  pub record RunsInTurn (old new : Registry S database) (commands : List Command)
      (report : RunReport) : Type 0 where
    pub reached : Registry S database
    pub obeyed : ObeysInTurn (take (length report.replies.items) commands) report.replies.items
        old reached
    pub stops : EndsTurn report.fault (drop (length report.replies.items) commands) reached new

  -- A list of commands was obeyed, up to a fault.
  pub record IsRun (old new : Registry S database) (commands : List Command)
      (report : RunReport) : Type 0 where
    -- a registry that has failed obeys nothing
    pub failed : is_live old ≡ false → (report.replies.items ≡ [])
        × (report.fault ≡ Some Failed) × (new ≡ old)
    pub clean : HasCleanDisk database new → HasCleanDisk database old
    pub fault : IfSome report.fault (MayGive (is_live old))
    -- Whatever its disk does: without a fault each command has a reply, and if a live registry
    -- reports one, some have none.
    pub complete : report.fault ≡ None → length report.replies.items ≡ length commands
    pub cut : is_live old ≡ true → IsSome report.fault
        → length report.replies.items < length commands
    pub most : length report.replies.items ≤ length commands
    pub ran : OverHistory database old new (λ h. Runs report new h (map asks commands))
    -- whatever its disk does, a live one obeys each command as if it came alone, so that a fault
    -- has its cause
    pub in_turn : is_live old ≡ true → RunsInTurn old new commands report
    -- Whatever its disk does: without a fault a live registry stays live, one that has failed since
    -- ran out of memory, or its store failed,
    pub stays : is_live old ≡ true → report.fault ≡ None → is_live new ≡ true
    pub fails : is_live old ≡ true → is_live new ≡ false → IsSomeAnd report.fault IsMemoryOrStore
    -- no live one replies that it had failed,
    pub alive : is_live old ≡ true → AllByRecursion ReplyIsNotFailed report.replies.items
    -- and no limit of steps was set.
    pub limit : KeepsLimit database old new
