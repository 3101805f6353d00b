use Rattle.pid_moderation.specs.Files.{asks}
use Rattle.pid_service.proofs.SessionsMet.{sessions_met}
use Rattle.pid_service.proofs.registry_calls.RegistryRegistryCalls.obey.Goals as goal

pub returns : goal.returns
returns g c = record {
  calls = (sessions_met g.C.Database).obeys c.args.self.now c.obey_lent-answer.new.self (asks c.args.command) c.obey_lent-answer.result c.obey_lent-answer.ensures.clean c.obey_lent-answer.ensures.failed c.obey_lent-answer.ensures.obeyed;
  own = c.obey_lent-answer.ensures;
}
