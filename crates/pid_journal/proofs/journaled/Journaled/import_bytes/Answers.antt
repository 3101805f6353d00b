use Rattle.std.proofs.Common.{ℕ, List, subst}
use Rattle.pid_moderation.specs.BeforeFile.{import_of}
use Rattle.pid_moderation.specs.Files.{file_reading}
use Rattle.pid_service_laws.specs.Registries.{CommandLeaves}
use Rattle.pid_journal.specs.Steps.Living.{off_either}
use Rattle.pid_journal.specs.Steps.Parts.{pair_showing_from}
use Rattle.pid_journal.proofs.journaled.Journaled.import_bytes.Goals as goal

pub returns-clause-obeyed : goal.returns-clause-obeyed
returns-clause-obeyed g c clean start h shows =
    subst (λ (l : List ℕ). CommandLeaves (pair_showing_from g.R.RegistryCalls g.J.JournalFile start) c.obey.result c.obey.new.self h (import_of c.args.account c.args.key (file_reading l))) c.new-file.ensures (c.obey.ensures.obeyed clean start h shows)

pub returns-clause-failed : goal.returns-clause-failed
returns-clause-failed g c off = c.obey.ensures.failed (off_either c.args.self.now.failed (g.R.RegistryCalls.is_live c.args.self.now.registry) off)
