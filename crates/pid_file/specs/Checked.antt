-- What `check` writes for the text of its input.
use Rattle.std.specs.Prelude.{ℕ, ◌⊎◌, [], ◌∷◌, ◌++◌, List, Option, length, codes, decimal}
use Rattle.std.specs.Io.KnownBytes.{Appends}
use Rattle.pid_file.specs.Reading.{history_of}
use Rattle.pid_file.specs.LookingBack.{entries_back}
use Rattle.pid_file.specs.Sending.{SendsFront}
use Rattle.pid_file.specs.Judgements.{IsGood}
use Rattle.pid_file.specs.Reports.{IsReported}
use Rattle.pid_file.specs.declared.text_end.TextEnd.{TextEnd}
use Rattle.pid_file.specs.declared.text_end.TextEnd.TheVariants.{Done, Line, TooManyEntries}
use Rattle.pid_file.specs.declared.text_end.TextEnd.TheVariants.{TooLarge, Memory, ReadFault}
use Rattle.pid_file.specs.declared.text_end.TextEnd.TheVariants.{WriteFault}

-- the number of entries in a text
abbrev pub count_of : List ℕ → ℕ
count_of text = length (entries_back (history_of text))

-- the line for a good text with so many entries: ok 35598
abbrev pub ok_line : ℕ → List ℕ
ok_line count = codes "ok " ++ decimal count ++ 10 ∷ []

-- what was written, by the end: the count for a good text, or why there is none
abbrev pub IsChecked : TextEnd → List ℕ → Option (List ℕ) → Option (List ℕ) → Type 0
IsChecked Done text old new = IsGood text × Appends old new (ok_line (count_of text))
IsChecked WriteFault text old new = (IsGood text × SendsFront old new (ok_line (count_of text)))
    ⊎ IsReported WriteFault text old new
IsChecked (Line line kind) text old new = IsReported (Line line kind) text old new
IsChecked TooManyEntries text old new = IsReported TooManyEntries text old new
IsChecked TooLarge text old new = IsReported TooLarge text old new
IsChecked Memory text old new = IsReported Memory text old new
IsChecked ReadFault text old new = IsReported ReadFault text old new
