-- What an export does, prints and reports. Choices of this project.
use Rattle.std.specs.Prelude.{◌≡◌, ◌⊎◌, ℕ, List, Option, Result, Ok, Err}
use Rattle.std.specs.Io.KnownBytes.{Keeps}
use Rattle.pid_file.specs.declared.io.Output as outputs
use Rattle.pid_file.specs.Writing.{WriterUse, use_of}
use Rattle.pid_service_laws.specs.declared.faults.ExportFault.{ExportFault}
use Rattle.pid_service_laws.specs.declared.faults.ExportFault.TheVariants as exports
use Rattle.pid_tables.specs.declared.database.Database.{Ghosts}
use Rattle.pid_service.specs.declared.registry.Registry.{Registry}
use Rattle.pid_service.specs.Exporting.{IsExported}
use Rattle.pid_cli_jobs.specs.declared.job_end.JobEnd.{JobEnd}
use Rattle.pid_cli_jobs.specs.declared.job_end.JobEnd.TheVariants.{Exited, Refused, FileFailed}
use Rattle.pid_cli_jobs.specs.Lines.{IsUnreported, Streams, streams}
use Rattle.pid_cli.specs.Openings.{WorksAt}

-- that an export was refused, or that the writer failed, is still to be reported
abbrev pub export_end : Result (Unit {0}) ExportFault → JobEnd
export_end (Ok done) = Exited 0
export_end (Err (exports.Refused refusal)) = Refused refusal
export_end (Err (exports.Write fault)) = FileFailed

module _ {C : Type 0} (database : Ghosts C) where
  -- The canonical text of the registry went to the writer, or a part of it before a fault.
  pub record PrintsAll {W : Type 0} (writer : outputs.Ghosts W) (before after : W) (w : Streams)
      (end : JobEnd) (old new : Registry C database) : Type 0 where
    pub result : Result (Unit {0}) ExportFault
    pub exported : IsExported database writer old new before after result
    pub ends : end ≡ export_end result
    pub silent : IsUnreported w

module _ {C : Type 0} (database : Ghosts C) (IsAt IsClosed : C → Type 0) where
  -- An export went to a buffer, and with status 0 all of it went on to the writer that the buffer is
  -- over. Of another end it is not said how much went on.
  pub record ExportsThrough {W : Type 0} (buffer : outputs.Ghosts W) (faults : WriterUse)
      (before after : Option (List ℕ)) (end : JobEnd) : Type 0 where
    pub empty : W
    pub filled : W
    pub into : JobEnd
    pub exports : WorksAt database IsAt IsClosed (PrintsAll database buffer empty filled)
        (streams (use_of buffer empty filled) faults) into
    pub begins : buffer.taken empty ≡ before
    -- one that went to the buffer may end as a failed file, and no other ends otherwise
    pub ends : (end ≡ into) ⊎ ((into ≡ Exited 0) × (end ≡ FileFailed))
    pub sent : end ≡ Exited 0 → Keeps (buffer.taken filled) after
