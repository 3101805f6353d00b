use Rattle.pid_moderation.specs.Files.{asks}
use Rattle.pid_journal.specs.Steps.Living.{off_either}
use Rattle.pid_journal.proofs.Noted.{anywhere}
use Rattle.pid_journal.proofs.Pairing.{pair_obeys}
use Rattle.pid_journal.proofs.registry_calls.JournaledRegistryCalls.obey.Goals as goal

pub returns-clause-calls : goal.returns-clause-calls
returns-clause-calls g c =
    pair_obeys g.R.RegistryCalls g.J.JournalFile g.met.R.RegistryCalls.lives c.args.self.now c.obey.new.self (asks c.args.command) c.obey.result c.obey.ensures.honest c.obey.ensures.obeyed (λ off. c.obey.ensures.failed (off_either c.args.self.now.failed (g.R.RegistryCalls.is_live c.args.self.now.registry) off))

pub returns-clause-obeys : goal.returns-clause-obeys
returns-clause-obeys g c clean h shows =
    anywhere g.R.RegistryCalls g.J.JournalFile shows.0 h c.obey.new.self c.obey.result (asks c.args.command) (c.obey.ensures.obeyed clean shows.0 h shows.1)
