use Rattle.pid_journal.proofs.Pairing.{asked_off, asked_on}
use Rattle.pid_journal.proofs.registry_queries.JournaledRegistryQueries.queue.Goals as goal

pub returns-then-self : goal.returns-then-self
returns-then-self g c = asked_off g.R.RegistryCalls g.J.JournalFile c.args.self.now _ _ c.if-self.true

pub returns : goal.returns
returns g c = asked_on g.R.RegistryCalls g.J.JournalFile c.args.self.now c.queue.new.self c.queue.result _ _ c.queue.ensures c.if-self.false
