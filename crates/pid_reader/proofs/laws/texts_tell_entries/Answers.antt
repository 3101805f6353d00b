use Rattle.std.proofs.Common.{[], ap, length, arith}
use Rattle.pid_file.specs.Lines.{lines_of}
use Rattle.pid_file.proofs.Counting.{few_from}
use Rattle.pid_reader.proofs.EntriesTold.{entries_told, parents_told}
use Rattle.pid_file.proofs.Feeding.{entries-good}
use Rattle.pid_reader.proofs.laws.texts_tell_entries.Goals as goal

pub returns-clause-entries : goal.returns-clause-entries
returns-clause-entries c = entries_told

pub returns-clause-parents : goal.returns-clause-parents
returns-clause-parents c = parents_told

pub returns-clause-few : goal.returns-clause-few
returns-clause-few c text none =
    let few = few_from [] (lines_of text) none (omega arith) in
    omega (arith, few, ap length (entries-good (lines_of text) none))
