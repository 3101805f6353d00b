-- A registry that is opened with the journal of a folder in front of it. Choices of this project.
use Rattle.std.specs.Prelude.{◌≡◌, Result, Ok, Err}
use Rattle.pid_moderation.specs.declared.refusal.Refusal.TheVariants as refusals
use Rattle.pid_service_laws.specs.declared.registry_calls.RegistryCalls.{Ghosts}
use Rattle.pid_journal.specs.declared.file.JournalFile as files
use Rattle.pid_journal.specs.declared.folder.JournalFolder as folders
use Rattle.pid_journal.specs.declared.journaled.Journaled.{Journaled}
use Rattle.pid_journal.specs.declared.open_fault.OpenFault.{OpenFault}
use Rattle.pid_journal.specs.declared.open_fault.OpenFault.TheVariants as faults
use Rattle.pid_journal.specs.declared.opened.Opened.{Opened}
use Rattle.pid_journal.specs.Openings.{OpensJournal}
use Rattle.pid_cli_jobs.specs.declared.unopened.Unopened.{Unopened}
use Rattle.pid_cli_jobs.specs.declared.unopened.Unopened.TheVariants as reasons

-- what is reported
abbrev pub reason_of_fault : OpenFault → Unopened
reason_of_fault (faults.Refused refusals.Memory) = reasons.Memory
reason_of_fault (faults.Refused refusal) = reasons.JournalFailed
reason_of_fault faults.Another = reasons.AnotherJournal
reason_of_fault faults.Newer = reasons.AnotherJournal
reason_of_fault faults.Missing = reasons.SegmentsMissing

-- `registry` is how the registry itself is described, `folder` the folder, and `file` a segment
module _ {R F J : Type 0} (registry : Ghosts R) (folder : folders.Ghosts F J) (file : files.Ghosts J)
  where
    -- A registry was opened alone, and the journal in the folder was put in front of it.
    pub record IsJournaled (f : F) (IsOpened : R → Type 0) (pair : Journaled R J) : Type 0 where
      pub alone : R
      pub opens : IsOpened alone
      pub opened : Opened R J
      pub is : opened.registry ≡ pair
      -- and this is the folder then
      pub after : F
      pub leaves : OpensJournal registry folder file alone f after (Ok opened)

    -- The journal was refused, or there was a fault, and the registry was closed as that left it.
    pub record IsRefusedWith (f : F) (IsOpened IsClosed : R → Type 0) (fault : OpenFault) : Type 0 where
      pub alone : R
      pub opens : IsOpened alone
      pub back : R
      pub after : F
      pub leaves : OpensJournal registry folder file alone f after (Err (back, fault))
      pub closed : IsClosed back

    -- none was opened alone, or not with its journal
    pub data IsNotJournaled (f : F) (IsOpened : R → Type 0) (IsUnopened : Unopened → Type 0)
        (IsClosed : R → Type 0) (why : Unopened) : Type 0 where
      NotEvenAlone : IsUnopened why → IsNotJournaled f IsOpened IsUnopened IsClosed why
      Refused : (fault : OpenFault) → IsRefusedWith f IsOpened IsClosed fault
          → why ≡ reason_of_fault fault → IsNotJournaled f IsOpened IsUnopened IsClosed why
