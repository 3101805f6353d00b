use Rattle.std.proofs.Common.{subst, sym}
use Rattle.pid_file.specs.Steps.Wrapping.{kept_read_fault, wrapped}
use Rattle.pid_cli_jobs.specs.Jobs.{OfFile}
use Rattle.pid_cli_jobs.proofs.imports.import.Goals as goal

pub returns : goal.returns
returns g c = OfFile c.in-Some.file c.in-Some.ensures
    (g.M.Opened.Read.remaining (wrapped c.import_file-found.new.input).inner) (kept_read_fault c.import_file-found.new.input)
    c.import_file-found.result
    (rw (sym c.in-Ok.ensures.ok.0, sym c.in-Ok.ensures.ok.1, sym c.new.ensures, sym c.new-input.ensures.wraps) c.import_file-found.ensures)
    c.report_import.ensures
