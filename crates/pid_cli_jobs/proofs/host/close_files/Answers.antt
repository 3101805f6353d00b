use Rattle.std.proofs.Common.{sym, ◌∙◌}
use Rattle.pid_cli_jobs.specs.Files.{Copied, Uncopied}
use Rattle.pid_cli_jobs.proofs.host.close_files.Goals as goal

pub returns-in-Ok : goal.returns-in-Ok
returns-in-Ok g c = rw (sym c.take.ensures.value ∙ c.in-Some.is) (Copied c.in-Ok._files c.in-Ok.ensures.copied)

pub returns-in-Err : goal.returns-in-Err
returns-in-Err g c = rw (sym c.take.ensures.value ∙ c.in-Some.is) (Uncopied c.in-Err.store c.in-Err.ensures.err.0
    (λ clean. (c.in-Err.field-0-0, c.in-Err.ensures.err.1 clean)))
