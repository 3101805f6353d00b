-- What the reading of an input's text comes to. That a text is too long before any line is judged
-- is a choice of this project.
use Rattle.std.specs.Prelude.{◌≡◌, ℕ, ◌<◌, ◌≤◌, List, length, None, Result, Ok, Err}
use Rattle.pid_file.specs.LookingBack.{entries_back}
use Rattle.pid_file.specs.Reading.{history_of, refused}
use Rattle.pid_file.specs.Refusals.{IsRefusal}
use Rattle.pid_file.specs.declared.sink.CutEnd.TheVariants.{Refused, Fault}
use Rattle.pid_file.specs.declared.whole_input.InputEnd.{InputEnd}
use Rattle.pid_file.specs.declared.whole_input.InputEnd.TheVariants.{ReadFault, TooLong, Cut}

-- the text has so many entries
abbrev pub HasEntries : List ℕ → ℕ → Type 0
HasEntries text count = count ≡ length (entries_back (history_of text))

-- why a text was not read
abbrev pub IsUnread : {F : Type 0} → ℕ → InputEnd F → List ℕ → Type 0
IsUnread limit ReadFault text = Unit {0}
IsUnread limit TooLong text = limit < length text
IsUnread limit (Cut (Refused r)) text = (length text ≤ limit) × IsRefusal r (refused text)
IsUnread limit (Cut (Fault f)) text = ⊥

-- the text was read whole, nothing in it is refused, and this is what was made of it; or why not
abbrev pub ReadsInput : {D F : Type 0} → (List ℕ → D → Type 0) → ℕ → Result D (InputEnd F) → List ℕ
    → Type 0
ReadsInput gives limit (Ok d) text = (length text ≤ limit) × (refused text ≡ None) × gives text d
ReadsInput gives limit (Err end) text = IsUnread limit end text
