-- What a writer took of the text of a registry's items.
use Rattle.std.specs.Prelude.{◌≡◌, false, Some, Result, Err}
use Rattle.pid_file.specs.declared.io.Output as outputs
use Rattle.pid_file.specs.declared.io.WriteFault.{WriteFault}
use Rattle.pid_moderation.specs.declared.refusal.Refusal.{Refusal}
use Rattle.pid_moderation.specs.declared.refusal.Refusal.TheVariants.{Failed}
use Rattle.pid_moderation.specs.Writes.{tree_of}
use Rattle.pid_file.specs.Printing.{print}
use Rattle.pid_service_laws.specs.Calls.{nothing_sent}
use Rattle.pid_service_laws.specs.Moderating.{ExportsText}
use Rattle.pid_service_laws.specs.Registries.{Does}
use Rattle.pid_service_laws.specs.declared.faults.ExportFault.{ExportFault}
use Rattle.pid_service_laws.specs.declared.faults.ExportFault.TheVariants.{Refused, Write}
use Rattle.pid_tables.specs.declared.database.Database.{Ghosts}
use Rattle.pid_service.specs.declared.registry.Registry.{Registry}
use Rattle.pid_service.specs.Asking.{FaultIsCaused, MayGive}
use Rattle.pid_service.specs.Histories.{OverHistory, Shows, showing}
use Rattle.pid_service.specs.Registries.{OnlyReads, is_live}

-- An export of a registry to a writer, whose trait says what it took and which fault it keeps.
pub record IsExported {S W : Type 0} (database : Ghosts S) (writer : outputs.Ghosts W)
    (old new : Registry S database) (before after : W) (result : Result (Unit {0}) ExportFault)
    : Type 0 where
  -- in a session it is a call that sends nothing
  pub calls : Does (showing database) old nothing_sent new
  -- a registry that has failed answers nothing else, and writes nothing
  pub failed : is_live old ≡ false → (result ≡ Err (Refused Failed)) × (new ≡ old)
      × (writer.taken after ≡ writer.taken before)
  pub lives : is_live new ≡ is_live old
  pub rests : OnlyReads database old new
  pub shown : OverHistory database old new (Shows database new)
  pub printed : OverHistory database old new (λ h.
      ExportsText result (writer.taken before) (writer.taken after) (print (tree_of h)))
  pub refused : (e : Refusal) → result ≡ Err (Refused e) → MayGive (is_live old) e
  pub caused : OverHistory database old new
      (λ h. (e : Refusal) → result ≡ Err (Refused e) → FaultIsCaused database old new e)
  -- a fault of the writer is the one that it keeps
  pub fault : (f : WriteFault) → result ≡ Err (Write f) → writer.write_fault after ≡ Some f
