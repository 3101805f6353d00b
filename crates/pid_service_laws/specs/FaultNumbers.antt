-- The number of each fault of an export and of an import: choices of this project.
use Rattle.std.specs.Prelude.{ℕ}
use Rattle.pid_service_laws.specs.declared.faults.ExportFault.{ExportFault}
use Rattle.pid_service_laws.specs.declared.faults.ExportFault.TheVariants as exports
use Rattle.pid_service_laws.specs.declared.faults.ImportEnd.{ImportEnd}
use Rattle.pid_service_laws.specs.declared.faults.ImportEnd.TheVariants as imports

abbrev pub export_fault_number : ExportFault → ℕ
export_fault_number (exports.Refused refusal) = 1
export_fault_number (exports.Write fault) = 2

abbrev pub import_end_number : ImportEnd → ℕ
import_end_number (imports.Refused refusal) = 1
import_end_number imports.Body = 2
