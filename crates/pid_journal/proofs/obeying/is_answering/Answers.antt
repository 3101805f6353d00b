use Rattle.pid_journal.proofs.Probing.{err_probed, ok_probed}
use Rattle.pid_journal.proofs.obeying.is_answering.Goals as goal

pub returns-in-Ok : goal.returns-in-Ok
returns-in-Ok g c = ok_probed g.R.RegistryCalls.showing g.R.RegistryCalls.is_live g.met.R.RegistryCalls.lives c.args.registry.now c.status.new.self _ _ c.in-Ok.ensures

pub returns-in-Err : goal.returns-in-Err
returns-in-Err g c =
    err_probed g.R.RegistryCalls.showing g.R.RegistryCalls.is_live g.met.R.RegistryCalls.lives c.args.registry.now c.status.new.self _ c.in-Err.refusal c.is_failed.result c.is_failed.ensures.yes c.is_failed.ensures.no c.in-Err.ensures
