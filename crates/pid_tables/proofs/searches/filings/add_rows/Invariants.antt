use Rattle.std.proofs.Common.{◌≡◌, ◌+◌, ◌++◌, ℕ, List, length, map, take}
use Rattle.pid_moderation.specs.Views.{Submitted}
use Rattle.pid_tables.specs.Searches.Filings.{filed_as}
use Rattle.pid_tables.specs.Searches.Steps.FilingRows.{filing_row}
use Rattle.pid_tables.specs.Searches.KeptNumbers.{AreKeptFor}
use Rattle.pid_tables.proofs.searches.filings.add_rows.Given as goal

abbrev pub invariant-loop-row : goal.invariant-loop-row
invariant-loop-row l =
    (l.number ≡ l.after + l.row-index)
    × ((all : List Submitted) (filings : List (List ℕ × List ℕ)) → l.rows ≡ map filing_row all → AreKeptFor l.initial.kept filings → l.after ≡ length filings
    → AreKeptFor l.kept (filings ++ map filed_as (take l.row-index all)))
