-- Steps of Importing.
use Rattle.std.specs.Prelude.{◌≡◌, ◌+◌, ◌≤◌, ◌<◌, ℕ, List, length, None, Result, Ok, Err}
use Rattle.pid_reader.specs.Lines.{lines_of}
use Rattle.pid_reader.specs.Reading.{entries_of, refused}
use Rattle.pid_file.specs.declared.refusal.ReadRefusal.TheVariants as reads
use Rattle.pid_file.specs.declared.sink.CutEnd.TheVariants as cuts
use Rattle.pid_file.specs.declared.whole_input.InputEnd.{InputEnd}
use Rattle.pid_file.specs.declared.whole_input.InputEnd.TheVariants as ends
use Rattle.pid_moderation.specs.declared.change.Change.{Change}
use Rattle.pid_moderation.specs.declared.command.Reply.{Reply}
use Rattle.pid_moderation.specs.declared.refusal.Refusal.{Refusal}
use Rattle.pid_moderation.specs.declared.refusal.Refusal.TheVariants as refusals
use Rattle.pid_moderation.specs.Changes.{changed, with_pairs, FitsViews}
use Rattle.pid_moderation.specs.CheckTables.{most_file_bytes, most_revision}
use Rattle.pid_moderation.specs.History.{Asked, History}
use Rattle.pid_moderation.specs.Items.{Items}
use Rattle.pid_moderation.specs.Judgement.{judge, answer, after}
use Rattle.pid_moderation.specs.Views.{views_of, items_of, revision_of}
use Rattle.pid_tables.specs.declared.rows.fault.TableFault.{TableFault}
use Rattle.pid_tables.specs.Rows.Shows.{counts_of}
use Rattle.pid_tables.specs.Steps.Fits.{CountsFit}
use Rattle.pid_tables.specs.declared.put_file.Stop.{Stop}
use Rattle.pid_tables.specs.declared.put_file.Stop.TheVariants as stops
use Rattle.pid_tables.specs.declared.tally.Tally.{Tally}
use Rattle.pid_tables.specs.Faults.{IsMemoryOrStore, refusal_for}
use Rattle.pid_moderation.specs.Files.{fault_as}
use Rattle.pid_tables.specs.Steps.Tallies.{tally_of}
use Rattle.pid_tables.specs.Importing.{RefusesImport}

-- a file that was read whole and put.
pub record IsPut (h : History) (text : List ℕ) (t : Tally) : Type 0 where
  pub short : length text ≤ most_file_bytes
  pub good : refused text ≡ None
  pub tally : t ≡ tally_of (items_of h) (entries_of (lines_of text))

-- the number of one command more, if it can be counted.
abbrev pub IsNext : ℕ → ℕ → Type 0
IsNext revision n = revision < most_revision → n ≡ revision + 1

-- an import whose pairs were put is accepted with a change for the views with these, or it is
-- refused
abbrev pub JudgesFile : History → Asked → Items → Result (Change × Reply) Refusal → Type 0
JudgesFile h c pairs (Ok d) = (revision_of h < most_revision)
    × (answer (judge (views_of h) c) ≡ Ok d.1)
    × (views_of (after h c) ≡ changed d.0 (with_pairs pairs (views_of h)))
    × FitsViews d.0 (with_pairs pairs (views_of h))
    × CountsFit d.0.effect (counts_of (views_of h)) (with_pairs pairs (views_of h))
JudgesFile h c pairs (Err e) = RefusesImport h c e

-- how the end of a reading stops an import.
abbrev pub IsStopOf : InputEnd TableFault → Stop → Type 0
IsStopOf ends.ReadFault stop = stop ≡ stops.Body
IsStopOf ends.TooLong stop = stop ≡ stops.Refused refusals.BadText
IsStopOf (ends.Cut (cuts.Refused (reads.Line line kind))) stop = stop
    ≡ stops.Refused (refusals.FileFault (fault_as (reads.Line line kind)))
IsStopOf (ends.Cut (cuts.Refused reads.TooManyEntries)) stop = stop
    ≡ stops.Refused (refusals.FileFault (fault_as reads.TooManyEntries))
IsStopOf (ends.Cut (cuts.Refused reads.Memory)) stop = stop ≡ stops.Failed refusals.Memory
IsStopOf (ends.Cut (cuts.Fault f)) stop = (e : Refusal) × (stop ≡ stops.Failed e)
    × IsMemoryOrStore e × (e ≡ refusal_for f)
