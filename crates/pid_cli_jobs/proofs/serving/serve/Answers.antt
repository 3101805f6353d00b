use Rattle.std.specs.Prelude.{◌∷◌}
use Rattle.std.proofs.Common.{refl}
use Rattle.pid_service_laws.specs.Calls.{nothing_sent}
use Rattle.pid_cli_jobs.specs.Sessions.{Session, Unopened}
use Rattle.pid_cli_jobs.proofs.serving.serve.Goals as goal

pub returns-in-Ok : goal.returns-in-Ok
returns-in-Ok g c = Session (record {
  opened = c.in-Ok.registry;
  opens = c.in-Ok.ensures.opened;
  ended = c.serve_registry-end.new.registry;
  goes = record {
    calls = nothing_sent ∷ c.serve_registry-end.ensures.goes.calls;
    lead = (c.prepare.new.registry, c.prepare.ensures.calls, c.serve_registry-end.ensures.goes.lead);
  };
  does = record {
    ready = c.prepare.new.registry;
    prepared = c.prepare.ensures;
    offers = c.serve_registry-end.ensures.offers;
  };
  closes = c.close.ensures;
})

pub returns-in-Err : goal.returns-in-Err
returns-in-Err g c =
    Unopened c.in-Err.why c.in-Err.ensures.unopened (refl, c.report_unopened.ensures)
