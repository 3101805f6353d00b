-- Steps of Exporting.
use Rattle.std.specs.Prelude.{◌≡◌}
use Rattle.pid_file.specs.declared.io.WriteFault.{WriteFault}
use Rattle.pid_tables.specs.declared.lists.walk.EachEnd.{EachEnd}
use Rattle.pid_tables.specs.declared.lists.walk.EachEnd.TheVariants as ends
use Rattle.pid_tables.specs.Faults.{IsMemoryOrStore, refusal_for}
use Rattle.pid_moderation.specs.declared.refusal.Refusal.{Refusal}
use Rattle.pid_service_laws.specs.declared.faults.ExportFault.{ExportFault}
use Rattle.pid_service_laws.specs.declared.faults.ExportFault.TheVariants.{Refused, Write}

-- how the end of an export of tables is answered
abbrev pub IsToldAs : EachEnd WriteFault → ExportFault → Type 0
IsToldAs (ends.Tables fault) told = (e : Refusal) × (told ≡ Refused e) × IsMemoryOrStore e
    × (e ≡ refusal_for fault)
IsToldAs (ends.Fault fault) told = told ≡ Write fault
