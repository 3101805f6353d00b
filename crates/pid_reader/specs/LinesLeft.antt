-- What is read line by line, up to the first line that has a fault of its own.
use Rattle.std.specs.Prelude.{◌≡◌, ℕ, ◌+◌, List, [], ◌∷◌, ◌++◌, length, map}
use Rattle.std.specs.Prelude.{Option, Some, None, Result, Ok, Err}
use Rattle.pid_file.specs.declared.fault_kind.LineKind.{LineKind}
use Rattle.pid_reader.specs.declared.line_fault.LineFault.{LineFault}
use Rattle.pid_file.specs.declared.sink.Entry.{Entry}
use Rattle.pid_reader.specs.declared.lines.Lines.{Lines}
use Rattle.pid_file.specs.Lines.{lines_of}
use Rattle.pid_file.specs.Numbered.{Numbered, as_numbered, numbered_at}
use Rattle.pid_file.specs.Faults.{line_fault_of}
use Rattle.pid_file.specs.OpenLevels.{IsOpenAt}

abbrev pub as_ok : Numbered → Result Numbered LineFault
as_ok entry = Ok entry

-- what a line with this fault or none says: its fault, or its entry
abbrev pub told_at : List (List ℕ) → List ℕ → Option LineKind → List (Result Numbered LineFault)
    → List (Result Numbered LineFault)
told_at earlier line (Some kind) after = Err (record { line = length earlier + 1; kind = kind })
    ∷ []
told_at earlier line None after = map as_ok (numbered_at earlier line) ++ after

-- what is said from some line on, with the lines before it, the nearest first
abbrev pub told_from : List (List ℕ) → List (List ℕ) → List (Result Numbered LineFault)
told_from earlier [] = []
told_from earlier (line ∷ lines) = told_at earlier line (line_fault_of earlier line)
    (told_from (line ∷ earlier) lines)

-- the reader of lines is after these lines
pub record StandsAfter (l : Lines) (earlier : List (List ℕ)) : Type 0 where
  pub levels : IsOpenAt l.levels earlier
  pub number : l.number ≡ length earlier

-- this is what the reader of lines will return
pub record HasLeft (l : Lines) (items : List (Result Numbered LineFault)) : Type 0 where
  pub earlier : List (List ℕ)
  pub stands : StandsAfter l earlier
  pub are : items ≡ told_from earlier (lines_of l.rest.now)

abbrev pub item_told : Result Entry LineFault → Result Numbered LineFault
item_told (Ok e) = Ok (as_numbered e)
item_told (Err f) = Err f

-- nothing is left of these, now or later
pub record IsAtEnd (items : List (Result Numbered LineFault)) (new : Lines) : Type 0 where
  pub none : items ≡ []
  pub left : HasLeft new []

-- the first of these was given, and the others are left
pub record GivesFirst (items : List (Result Numbered LineFault)) (first : Result Numbered LineFault)
    (new : Lines) : Type 0 where
  pub after : List (Result Numbered LineFault)
  pub are : items ≡ first ∷ after
  pub left : HasLeft new after

-- one call: the first of what is left is given, or nothing is left now or later
abbrev pub Gives : Lines → Option (Result Entry LineFault) → Lines → Type 0
Gives old None new = (items : List (Result Numbered LineFault)) → HasLeft old items
    → IsAtEnd items new
Gives old (Some x) new = (items : List (Result Numbered LineFault)) → HasLeft old items
    → GivesFirst items (item_told x) new
