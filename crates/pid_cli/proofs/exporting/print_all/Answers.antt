use Rattle.std.specs.Prelude.{[], ◌∷◌}
use Rattle.std.proofs.Common.{refl}
use Rattle.pid_service_laws.specs.Calls.{nothing_sent}
use Rattle.pid_cli_jobs.specs.Sessions.{Session, Unopened}
use Rattle.pid_cli.proofs.exporting.print_all.Goals as goal

pub returns-in-Ok : goal.returns-in-Ok
returns-in-Ok g c =
    let e = c.export_rows-printed.ensures in
    let ended = c.export_rows-printed.new.self in
    Session (record {
      opened = c.in-Ok.registry;
      opens = c.in-Ok.ensures.opened;
      ended = ended;
      goes = record { calls = nothing_sent ∷ []; lead = (ended, e.calls, refl) };
      does = record {
        result = c.export_rows-printed.result;
        exported = e;
        ends = c.end_of_export.ensures;
        silent = refl;
      };
      closes = c.close.ensures;
    })

pub returns-in-Err : goal.returns-in-Err
returns-in-Err g c =
    Unopened c.in-Err.why c.in-Err.ensures.unopened (refl, c.report_unopened.ensures)
