-- What an import is answered whose file comes as an input, and what the registry shows afterwards.
-- A choice of this project.
use Rattle.std.specs.Prelude.{◌≡◌, ◌⊎◌, ◌≤◌, ◌+◌, ℕ, Bool, List, length, Option, Result, Ok, Err}
use Rattle.std.specs.Prelude.{IsSome}
use Rattle.std.specs.Io.KnownBytes.{Consumes}
use Rattle.pid_file.specs.declared.io.Input as inputs
use Rattle.pid_file.specs.WholeInputs.{IsWhole}
use Rattle.pid_moderation.specs.declared.command.Reply.{Reply}
use Rattle.pid_moderation.specs.declared.refusal.Refusal.TheVariants.{BadText, Failed}
use Rattle.pid_moderation.specs.CheckTables.{most_file_bytes}
use Rattle.pid_moderation.specs.History.{Asked, History}
use Rattle.pid_service_laws.specs.Calls.{Call, nothing_sent, obeyed}
use Rattle.pid_service_laws.specs.Registries.{CommandLeaves, Does, Showing}
use Rattle.pid_service_laws.specs.declared.faults.ImportEnd.{ImportEnd}
use Rattle.pid_service_laws.specs.declared.faults.ImportEnd.TheVariants.{Refused, Body}

-- an import whose file comes as an input sends its command, unless the input failed
abbrev pub import_sent : Asked → Result Reply ImportEnd → (live : Bool) → Call
import_sent c (Ok reply) live = obeyed c (Ok reply) live
import_sent c (Err (Refused e)) live = obeyed c (Err e) live
import_sent c (Err Body) live = nothing_sent

-- how much of the input was read: all of it, if it is not too long; one byte more than a file may
-- have, if it has that, which is refused as a broken form, or as a registry that has failed refuses
-- everything; or what comes before its fault
abbrev pub ReadsImport : Result Reply ImportEnd → Option (List ℕ) → List ℕ → Type 0
ReadsImport (Ok reply) rest text = IsWhole most_file_bytes rest text
ReadsImport (Err (Refused e)) rest text = IsWhole most_file_bytes rest text
    ⊎ (((e ≡ BadText) ⊎ (e ≡ Failed)) × (length text ≡ most_file_bytes + 1))
ReadsImport (Err Body) rest text = length text ≤ most_file_bytes

-- this text was read of the input, and of it this holds
pub record HasRead (result : Result Reply ImportEnd) (to_come left : Option (List ℕ))
    (Holds : List ℕ → Type 0) : Type 0 where
  pub text : List ℕ
  pub consumed : Consumes to_come left text
  pub read : ReadsImport result left text
  pub holds : Holds text

-- What became of an input that an import read.
pub record InputIsRead {I : Type 0} (input : inputs.Ghosts I) (old new : I)
    (result : Result Reply ImportEnd) : Type 0 where
  pub goes : input.goes old new
  -- Body is answered exactly when it failed
  pub fault : result ≡ Err Body → IsSome (input.read_fault new)
  pub fault_first : IsSome (input.read_fault new) → result ≡ Err Body

-- what a registry that has failed answers, unless the input failed
abbrev pub AnswersFailed : Result Reply ImportEnd → Type 0
AnswersFailed result = (result ≡ Err (Refused Failed)) ⊎ (result ≡ Err Body)

module _ {R : Type 0} (w : Showing R) where
  -- as a command is obeyed; if the input failed, the registry shows the history as before
  abbrev pub ImportLeaves : Result Reply ImportEnd → R → History → Asked → Type 0
  ImportLeaves (Ok reply) new h c = CommandLeaves w (Ok reply) new h c
  ImportLeaves (Err (Refused e)) new h c = CommandLeaves w (Err e) new h c
  ImportLeaves (Err Body) new h c = w.shows new h

  -- an import was obeyed that asks this, as a call of the session
  pub record ObeysFile (is_live : R → Bool) (old new : R) (result : Result Reply ImportEnd)
      (c : Asked) : Type 0 where
    pub calls : Does w old (import_sent c result (is_live new)) new
    pub leaves : w.is_clean new → (h : History) → w.shows old h → ImportLeaves result new h c
