-- What a registry answers to a command, and what it shows afterwards.
use Rattle.std.specs.Prelude.{◌≡◌, ◌≢◌, ◌⊎◌, true, false, Result, Err, IfErr, IsErrAnd}
use Rattle.pid_service_laws.specs.Outcomes.{is_outcome}
use Rattle.pid_service_laws.specs.Registries.{CommandLeaves}
use Rattle.pid_moderation.specs.declared.command.Command.{Command}
use Rattle.pid_moderation.specs.declared.command.Reply.{Reply}
use Rattle.pid_moderation.specs.declared.refusal.Refusal.{Refusal}
use Rattle.pid_moderation.specs.declared.refusal.Refusal.TheVariants.{BadText, Failed}
use Rattle.pid_moderation.specs.BeforeFile.{WaitsForFile}
use Rattle.pid_moderation.specs.CheckTables.{is_broken}
use Rattle.pid_moderation.specs.FactsOfViews.{NoRows, facts_at}
use Rattle.pid_moderation.specs.History.{Asked, History, is_import}
use Rattle.pid_moderation.specs.Judgement.{Accepts, answer, judge}
use Rattle.pid_moderation.specs.Views.{views_of}
use Rattle.pid_moderation.specs.Files.{asks}
use Rattle.pid_tables.specs.declared.database.Database.{Ghosts}
use Rattle.pid_service.specs.declared.registry.Registry.{Registry}
use Rattle.pid_service.specs.Asking.{FaultIsCaused}
use Rattle.pid_service.specs.Histories.{IsMemoryOrStore, OverHistory, showing}
use Rattle.pid_service.specs.Registries.{HasCleanDisk, KeepsLimit, is_live}

-- What a session asks of a command (`CommandLeaves` of pid_service_laws). The answer is that of the
-- judgement over the history, and the registry shows the history after the command. Or memory ran
-- out or the store failed: while it was only read, then the registry shows the history as before;
-- or while it was written, then it has failed, and what a crash may leave shows the history before
-- the command or after it.
abbrev pub Obeys : {S : Type 0} → (database : Ghosts S) → Result Reply Refusal → Registry S database
    → History → Asked → Type 0
Obeys database result r h c = CommandLeaves (showing database) result r h c

-- the judgement over the history accepts it
abbrev pub IsAccepted : History → Asked → Type 0
IsAccepted h c = (reply : Reply) × (judge (views_of h) c ≡ Accepts reply)

-- It is what the judgement over the history answers; or a fault that has its cause in the call and
-- leaves the registry live; or one that fails it, over a command that the judgement accepts.
abbrev pub IsRefusedFor : {S : Type 0} → (database : Ghosts S) → Registry S database
    → Registry S database → History → Asked → Refusal → Type 0
IsRefusedFor database old new h c e = (answer (judge (views_of h) c) ≡ Err e)
    ⊎ (((is_live new ≡ true) × FaultIsCaused database old new e)
    ⊎ ((is_live new ≡ false) × IsAccepted h c))

-- the answer of an import depends on its file: no reply is kept for it, and no check before those of
-- the file fails
abbrev pub DependsOnFile : History → Asked → Type 0
DependsOnFile h c = WaitsForFile (facts_at (views_of h) c.account c.key NoRows)

-- A fault of an import has its cause in the call, and the registry is live still; or it has failed,
-- over an import that depends on its file.
abbrev pub ImportFaults : {S : Type 0} → (database : Ghosts S) → Registry S database
    → Registry S database → History → Asked → Refusal → Type 0
ImportFaults database old new h c e = IsMemoryOrStore e
    → ((is_live new ≡ true) × FaultIsCaused database old new e)
    ⊎ ((is_live new ≡ false) × DependsOnFile h c)

module _ {S : Type 0} (database : Ghosts S) where
  -- What becomes of a registry that is to obey, whatever its disk does.
  pub record Lasts (old new : Registry S database) (result : Result Reply Refusal) : Type 0 where
    -- a live one does not answer that it had failed
    pub alive : is_live old ≡ true → IfErr result (λ e. e ≢ Failed)
    -- an outcome leaves it live
    pub stays : is_live old ≡ true → is_outcome result ≡ true → is_live new ≡ true
    -- and if it has failed since, memory ran out or its store failed
    pub fails : is_live old ≡ true → is_live new ≡ false → IsErrAnd result IsMemoryOrStore
    -- no limit of steps was set
    pub limit : KeepsLimit database old new

  -- A command was obeyed.
  pub record IsObeyed (old new : Registry S database) (command : Command)
      (result : Result Reply Refusal) : Type 0 where
    -- the disk had returned what was written before the call too
    pub clean : HasCleanDisk database new → HasCleanDisk database old
    -- a registry that has failed answers nothing else
    pub failed : is_live old ≡ false → (result ≡ Err Failed) × (new ≡ old)
    -- what breaks a rule of form is refused before all else
    pub form : is_live old ≡ true → is_broken command.act ≡ true
        → (result ≡ Err BadText) × (new ≡ old)
    pub obeyed : OverHistory database old new (λ h. Obeys database result new h (asks command))
    -- A command other than an import that is refused: the judgement refuses it; or a fault has its
    -- cause in the call, and the registry is live still; or it has failed, over a command that the
    -- judgement accepts.
    pub caused : OverHistory database old new (λ h. is_import command.act ≡ false
        → IfErr result (IsRefusedFor database old new h (asks command)))
    -- An import has its refusal from the judgement, as `obeyed` says, or for such a fault.
    pub import_caused : OverHistory database old new (λ h. is_import command.act ≡ true
        → IfErr result (ImportFaults database old new h (asks command)))
    pub lasts : Lasts old new result
