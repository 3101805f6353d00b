use Rattle.pid_journal.proofs.Pairing.{asked_off, asked_on}
use Rattle.pid_journal.proofs.registry_calls.JournaledRegistryCalls.read.Goals as goal

pub returns-then-self : goal.returns-then-self
returns-then-self g c = asked_off g.R.RegistryCalls g.J.JournalFile c.args.self.now _ _ c.if-self.true

pub returns : goal.returns
returns g c = asked_on g.R.RegistryCalls g.J.JournalFile c.args.self.now c.read.new.self c.read.result _ _ c.read.ensures c.if-self.false
