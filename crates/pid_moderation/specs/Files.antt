-- What the file of an import reads to, and what a command asks with it: choices of this project.
use Rattle.std.specs.Prelude.{◌≡◌, ℕ, List, [], length, nat_lt, if◌then◌else◌, Option, Some, None}
use Rattle.std.specs.Prelude.{Err}
use Rattle.pid_file.specs.declared.refusal.ReadRefusal.{ReadRefusal}
use Rattle.pid_file.specs.declared.refusal.ReadRefusal.TheVariants as reads
use Rattle.pid_file.specs.Lines.{lines_of}
use Rattle.pid_file.specs.Reading.{entries_of, refused}
use Rattle.pid_moderation.specs.declared.command.Act.{Act}
use Rattle.pid_moderation.specs.declared.command.Act.TheVariants as acts
use Rattle.pid_moderation.specs.declared.command.Command.{Command}
use Rattle.pid_moderation.specs.declared.refusal.FileFault.{FileFault}
use Rattle.pid_moderation.specs.declared.refusal.FileFault.TheVariants as faults
use Rattle.pid_moderation.specs.declared.refusal.Refusal.TheVariants.{BadText}
use Rattle.pid_moderation.specs.CheckTables.{most_file_bytes}
use Rattle.pid_moderation.specs.History.{History, Reading, TooLong, Faulty, Good, Asked, asked}
use Rattle.pid_moderation.specs.Items.{Items}
use Rattle.pid_moderation.specs.Judgement.{judge, answer, after}
use Rattle.pid_moderation.specs.Views.{views_of}

-- Why the text of a file is refused. Its last line is never used: `refused` of pid_file, whose
-- refusals are these, never answers `Memory`.
abbrev pub fault_as : ReadRefusal → FileFault
fault_as (reads.Line line kind) = faults.Line line kind
fault_as reads.TooManyEntries = faults.TooMany
fault_as reads.Memory = faults.TooMany

-- what a text reads to, of which this is the first refusal, if there is one, and these are the
-- entries
abbrev pub read_as : Option ReadRefusal → Items → Reading
read_as None pairs = Good pairs
read_as (Some refusal) pairs = Faulty (fault_as refusal)

-- a file that is not too long reads to the entries of its lines, the last one first, or to the
-- first refusal of its text
unfoldable pub file_reading : List ℕ → Reading
file_reading text = if nat_lt most_file_bytes (length text) then TooLong else read_as (refused text)
    (entries_of (lines_of text))

-- the file of an import; other commands have none
abbrev pub file_of : Act → List ℕ
file_of (acts.Import file) = file
file_of act = []

-- what the file of a command reads to
abbrev pub reading_of : Act → Reading
reading_of act = file_reading (file_of act)

-- what a command asks, with the reading of its own file
abbrev pub asks : Command → Asked
asks command = asked command (reading_of command.act)

-- the judgement refuses it as a broken form, and nothing changes
abbrev pub IsBroken : History → Asked → Type 0
IsBroken h c = (answer (judge (views_of h) c) ≡ Err BadText) × (after h c ≡ h)
