use Rattle.std.proofs.Common.{◌≡◌, Some, None}
use Rattle.pid_tests_registry.proofs.journal.paper.PaperJournalFile.append.Goals as goal

pub returns-clause-appended : goal.returns-clause-appended
returns-clause-appended c front is = absurd (let no : ⊥ = cc in no)
