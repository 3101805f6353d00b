use Rattle.pid_cli_jobs.specs.Journaling.{Refused}
use Rattle.pid_cli_jobs.proofs.journaling.JournalingRegistries.open.Goals as goal

pub returns-in-Err-clause-unopened : goal.returns-in-Err-clause-unopened
returns-in-Err-clause-unopened g c = Refused c.in-Err.fault
    (record {
      alone = c.in_ok-registry.registry;
      opens = c.in_ok-registry.ensures.opened;
      back = c.in-Err.registry;
      after = c.open_journal-opened.new.folder;
      leaves = c.in-Err.ensures;
      closed = c.close.ensures;
    })
    c.reason.ensures
