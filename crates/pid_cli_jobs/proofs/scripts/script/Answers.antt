use Rattle.std.proofs.Common.{refl}
use Rattle.pid_cli_jobs.specs.Sessions.{Session, Unopened}
use Rattle.pid_cli_jobs.proofs.scripts.script.Goals as goal

pub returns-in-Ok-clause-works : goal.returns-in-Ok-clause-works
returns-in-Ok-clause-works g c = Session (record {
  opened = c.in-Ok.registry;
  opens = c.in-Ok.ensures.opened;
  ended = c.run_script-end.new.registry;
  goes = record {
    calls = c.run_script-end.ensures.calls.calls;
    lead = c.run_script-end.ensures.calls.lead;
  };
  does = record {
    script = c.run_script-end.result;
    ends = c.end_of.ensures;
    ran = c.run_script-end.ensures.script;
    caught_up = c.run_script-end.ensures.caught_up;
    ended = c.run_script-end.ensures.ended;
    silent = refl;
  };
  closes = c.close.ensures;
})

pub returns-in-Err-clause-works : goal.returns-in-Err-clause-works
returns-in-Err-clause-works g c =
    Unopened c.in-Err.why c.in-Err.ensures.unopened (refl, c.report_unopened.ensures)

pub returns-in-Err-clause-reads : goal.returns-in-Err-clause-reads
returns-in-Err-clause-reads g c = g.met.I.Incoming.stays _
