-- Steps of an import.
use Rattle.std.specs.Prelude.{◌≡◌, ◌≢◌, ◌⊎◌, ◌≤◌, ◌+◌, ℕ, Bool, true, false, List, length}
use Rattle.std.specs.Prelude.{Result, Ok, Err}
use Rattle.pid_moderation.specs.declared.command.Command.{Command}
use Rattle.pid_moderation.specs.declared.command.Reply.{Reply}
use Rattle.pid_moderation.specs.declared.facts.Facts.{Facts}
use Rattle.pid_moderation.specs.declared.refusal.Refusal.{Refusal}
use Rattle.pid_moderation.specs.declared.refusal.Refusal.TheVariants.{BadText, Failed, Memory, Store}
use Rattle.pid_moderation.specs.CheckTables.{most_file_bytes}
use Rattle.pid_moderation.specs.History.{Asked, History, Reading, asked, is_import}
use Rattle.pid_moderation.specs.Judgement.{after}
use Rattle.pid_moderation.specs.Views.{items_of}
use Rattle.pid_moderation.specs.Files.{file_reading}
use Rattle.pid_file.specs.declared.io.Input as inputs
use Rattle.pid_tables.specs.Judging.{IsOpen}
use Rattle.pid_service_laws.specs.Imports.{InputIsRead}
use Rattle.pid_service_laws.specs.declared.faults.ImportEnd.{ImportEnd}
use Rattle.pid_service_laws.specs.declared.faults.ImportEnd.TheVariants.{Refused, Body}
use Rattle.pid_tables.specs.declared.database.Database.{Ghosts}
use Rattle.pid_service.specs.declared.registry.Registry.{Registry}
use Rattle.pid_service.specs.Histories.{IsMemoryOrStore, IsReached, OverHistory, Shows}
use Rattle.pid_service.specs.Importing.{ObeysImport}
use Rattle.pid_service.specs.Obeying.{ImportFaults}
use Rattle.pid_service.specs.Registries.{HasCleanDisk, KeepsLimit, is_live}

-- The registry is as live as before. Or the answer is not that it had failed, and memory ran out
-- or the store failed.
abbrev pub EndStaysLive : Result Reply ImportEnd → (before after : Bool) → Type 0
EndStaysLive (Ok reply) before after = after ≡ before
EndStaysLive (Err (Refused e)) before after = (e ≢ Failed) × (IsMemoryOrStore e ⊎ (after ≡ before))
EndStaysLive (Err Body) before after = after ≡ before

-- after a fault the registry is live only if memory ran out
abbrev pub FaultStays : (live : Bool) → Refusal → Type 0
FaultStays live e = IsMemoryOrStore e → ((live ≡ true) × (e ≡ Memory)) ⊎ (live ≡ false)

-- what is answered for a text that is too long, by a registry that is live or has failed
abbrev pub long_refusal : (live : Bool) → Refusal
long_refusal true = BadText
long_refusal false = Failed

-- the answer that was known before, unless the text is too long or the input failed
abbrev pub AnswersPast : (live : Bool) → Result Reply Refusal → Result Reply ImportEnd → List ℕ
    → Type 0
AnswersPast live given (Ok reply) text = (given ≡ Ok reply) × (length text ≤ most_file_bytes)
AnswersPast live given (Err (Refused e)) text =
    ((given ≡ Err e) × (length text ≤ most_file_bytes))
    ⊎ ((e ≡ long_refusal live) × (length text ≡ most_file_bytes + 1))
AnswersPast live given (Err Body) text = Unit {0}

-- what an import of bytes in memory is answered, whose input does not fail
abbrev pub IsPlain : Result Reply ImportEnd → Result Reply Refusal → Type 0
IsPlain (Ok reply) result = result ≡ Ok reply
IsPlain (Err (Refused e)) result = result ≡ Err e
IsPlain (Err Body) result = result ≡ Err Store

module _ {S : Type 0} (database : Ghosts S) where
  -- what becomes of a registry at an import, and of its input, whatever text that has
  pub record EndStays {I : Type 0} (input : inputs.Ghosts I) (old new : Registry S database)
      (before after : I) (result : Result Reply ImportEnd) : Type 0 where
    pub clean : HasCleanDisk database new → HasCleanDisk database old
    pub live : EndStaysLive result (is_live old) (is_live new)
    pub limit : KeepsLimit database old new
    pub reads : InputIsRead input before after result

  -- the registry shows a history, over which the import depends on its file, and it can go on
  pub record HangsOnFile (r : Registry S database) (facts : Facts) (items : ℕ) (command : Command)
      (h : History) (c : Asked) : Type 0 where
    pub shows : Shows database r h
    pub import : is_import command.act ≡ true
    pub waits : IsOpen h command facts
    pub many : items ≡ length (items_of h)
    pub reached : IsReached (after h c)

  -- it is obeyed with the file that this text is
  abbrev pub CarriesText : Registry S database → Registry S database → Result Reply ImportEnd
      → Facts → ℕ → Command → List ℕ → Type 0
  CarriesText old new result facts items command text = HasCleanDisk database new → (h : History)
      → HangsOnFile old facts items command h (asked command (file_reading text))
      → ObeysImport database result new h (asked command (file_reading text))

  -- the same of an import, whatever was known of it
  abbrev pub TakesText : Registry S database → Registry S database → Result Reply ImportEnd
      → Command → List ℕ → Type 0
  TakesText old new result command text = OverHistory database old new
      (λ h. is_import command.act ≡ true
      → ObeysImport database result new h (asked command (file_reading text)))

  -- this is said of what a fault of an import stands for, over the history that was shown, whatever
  -- file it is taken to have
  abbrev pub CausesImport : Registry S database → Registry S database → Command
      → ((Refusal → Type 0) → Type 0) → Type 0
  CausesImport old new command Says = OverHistory database old new
      (λ h. (reading : Reading) → is_import command.act ≡ true
      → Says (ImportFaults database old new h (asked command reading)))
