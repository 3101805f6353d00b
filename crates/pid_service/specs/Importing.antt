-- What an import is answered whose file comes as an input, and what the registry shows afterwards.
use Rattle.std.specs.Prelude.{◌≡◌, ◌≢◌, ◌<◌, ℕ, Bool, true, false}
use Rattle.std.specs.Prelude.{List, length, Result, Ok, Err, IfErr, IsErrAnd}
use Rattle.pid_service_laws.specs.Imports.{ImportLeaves}
use Rattle.pid_service_laws.specs.Outcomes.{is_outcome}
use Rattle.pid_moderation.specs.declared.command.Reply.{Reply}
use Rattle.pid_moderation.specs.declared.refusal.Refusal.{Refusal}
use Rattle.pid_moderation.specs.declared.refusal.Refusal.TheVariants.{BadText, Failed}
use Rattle.pid_moderation.specs.CheckTables.{most_file_bytes}
use Rattle.pid_moderation.specs.History.{Asked, History, Reading}
use Rattle.pid_moderation.specs.Files.{file_reading}
use Rattle.pid_service_laws.specs.declared.faults.ImportEnd.{ImportEnd}
use Rattle.pid_service_laws.specs.declared.faults.ImportEnd.TheVariants.{Refused, Body}
use Rattle.pid_tables.specs.declared.database.Database.{Ghosts}
use Rattle.pid_service.specs.declared.registry.Registry.{Registry}
use Rattle.pid_service.specs.Histories.{IsMemoryOrStore, OverHistory, showing}
use Rattle.pid_service.specs.Obeying.{ImportFaults, Lasts, Obeys}
use Rattle.pid_service.specs.Registries.{HasCleanDisk, KeepsLimit, is_live}

-- as a command is obeyed; if the input failed, the registry shows the history as before
abbrev pub ObeysImport : {S : Type 0} → (database : Ghosts S) → Result Reply ImportEnd
    → Registry S database → History → Asked → Type 0
ObeysImport database result r h c = ImportLeaves (showing database) result r h c

-- it does not say that the registry had failed before
abbrev pub EndIsNotFailed : ImportEnd → Type 0
EndIsNotFailed (Refused e) = e ≢ Failed
EndIsNotFailed Body = Unit {0}

-- if one of these is answered a live registry stays live: a reply, a refusal by judgement, or a
-- fault of the input
abbrev pub leaves_live : Result Reply ImportEnd → Bool
leaves_live (Ok reply) = true
leaves_live (Err (Refused e)) = is_outcome (Err e)
leaves_live (Err Body) = true

-- memory ran out, or the store failed
abbrev pub IsEndFault : ImportEnd → Type 0
IsEndFault (Refused e) = IsMemoryOrStore e
IsEndFault Body = ⊥

-- this holds of its refusal, unless the input failed
abbrev pub OfRefusal : (Refusal → Type 0) → ImportEnd → Type 0
OfRefusal Holds (Refused e) = Holds e
OfRefusal Holds Body = Unit {0}

module _ {S : Type 0} (database : Ghosts S) where
  -- What becomes of a registry that is to obey an import of an input. All but `caused` is so
  -- whatever its disk does.
  pub record EndLasts (old new : Registry S database) (asks : Reading → Asked)
      (result : Result Reply ImportEnd) : Type 0 where
    -- a live one does not answer that it had failed
    pub alive : is_live old ≡ true → IfErr result EndIsNotFailed
    -- nor does one fail but with the answer that memory ran out or the store failed
    pub stays : is_live old ≡ true → leaves_live result ≡ true → is_live new ≡ true
    pub fails : is_live old ≡ true → is_live new ≡ false → IsErrAnd result IsEndFault
    -- no limit of steps was set
    pub limit : KeepsLimit database old new
    -- a fault has its cause, or the registry has failed, over an import that depends on its file
    pub caused : OverHistory database old new (λ h. (reading : Reading)
        → IfErr result (OfRefusal (ImportFaults database old new h (asks reading))))

  -- An import of these bytes was obeyed.
  pub record IsImported (old new : Registry S database) (asks : Reading → Asked) (file : List ℕ)
      (result : Result Reply Refusal) : Type 0 where
    pub clean : HasCleanDisk database new → HasCleanDisk database old
    -- a registry that has failed answers nothing else
    pub failed : is_live old ≡ false → (result ≡ Err Failed) × (new ≡ old)
    -- a file that is too long is refused before all else
    pub form : is_live old ≡ true → most_file_bytes < length file
        → (result ≡ Err BadText) × (new ≡ old)
    pub obeyed : OverHistory database old new
        (λ h. Obeys database result new h (asks (file_reading file)))
    -- a fault has its cause, or the registry has failed, over an import that depends on its file
    pub caused : OverHistory database old new (λ h. (reading : Reading)
        → IfErr result (ImportFaults database old new h (asks reading)))
    pub lasts : Lasts database old new result
