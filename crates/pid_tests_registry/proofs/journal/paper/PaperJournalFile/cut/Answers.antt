use Rattle.std.proofs.Common.{◌≡◌, Some, None}
use Rattle.pid_tests_registry.proofs.journal.paper.PaperJournalFile.cut.Goals as goal

pub returns : goal.returns
returns c front behind is counted = absurd (let no : ⊥ = cc in no)
