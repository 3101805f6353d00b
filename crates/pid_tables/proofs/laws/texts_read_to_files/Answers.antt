use Rattle.std.proofs.Common.{ℕ, List}
use Rattle.pid_reader.specs.Lines.{lines_of}
use Rattle.pid_reader.specs.Reading.{entries_of}
use Rattle.pid_tables.proofs.FileEntries.{entries_file}
use Rattle.pid_tables.proofs.Readings.{good_file}
use Rattle.pid_tables.proofs.laws.texts_read_to_files.Goals as goal

pub returns-clause-entries : goal.returns-clause-entries
returns-clause-entries c text good =
    entries_file c.parents_have_texts.ensures (entries_of (lines_of text)) (c.texts_tell_entries.ensures.entries text good) (c.texts_tell_entries.ensures.few text good)

pub returns-clause-readings : goal.returns-clause-readings
returns-clause-readings c text =
    good_file (λ (t : List ℕ) good. entries_file c.parents_have_texts.ensures (entries_of (lines_of t)) (c.texts_tell_entries.ensures.entries t good) (c.texts_tell_entries.ensures.few t good)) text
