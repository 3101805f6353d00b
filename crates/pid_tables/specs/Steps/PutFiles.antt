-- What putting a whole file does.
use Rattle.std.specs.Prelude.{◌≡◌, ◌⊎◌, ◌+◌, ◌≤◌, ℕ, List, [], ◌∷◌, length, Option, Some, None}
use Rattle.std.specs.Prelude.{Result, Ok, Err}
use Rattle.pid_file.specs.declared.refusal.ReadRefusal.TheVariants.{Memory}
use Rattle.pid_file.specs.declared.sink.CutEnd.TheVariants.{Refused, Fault}
use Rattle.pid_file.specs.declared.whole_input.InputEnd.{InputEnd}
use Rattle.pid_file.specs.declared.whole_input.InputEnd.TheVariants.{ReadFault, TooLong, Cut}
use Rattle.pid_reader.specs.Lines.{lines_of}
use Rattle.pid_reader.specs.LookingBack.{Item}
use Rattle.pid_reader.specs.Reading.{entries_of, refused}
use Rattle.pid_reader.specs.WholeInputs.{IsWhole}
use Rattle.pid_moderation.specs.CheckTables.{most_file_bytes}
use Rattle.pid_tables.specs.declared.rows.fault.TableFault.{TableFault}
use Rattle.pid_tables.specs.declared.putting.Put.{Put}
use Rattle.pid_tables.specs.declared.tally.Tally.{Tally}
use Rattle.pid_tables.specs.Steps.Tallies.{tallied}
use Rattle.pid_tables.specs.Steps.Tallies.{no_tally}

-- these items were put in turn, of which the last is the first here, and counted
abbrev pub PutAll : {K : Type 0} → (K → Item → Put → K → Type 0) → K → List Item → Tally → K
    → Type 0
PutAll puts old [] tally new = (new ≡ old) × (tally ≡ no_tally)
PutAll {K} puts old (item ∷ items) tally new = (between : K) × (before : Tally) × (put : Put)
    × PutAll puts old items before between × puts between item put new
    × (tally ≡ tallied put before)

-- some were put, or one more was not
abbrev pub PutSome : {K : Type 0} → (K → Item → Put → K → Type 0) → (K → K → Type 0) → K → K
    → Type 0
PutSome {K} puts gives_up old new = (items : List Item) × (tally : Tally)
    × (PutAll puts old items tally new ⊎
    ((between : K) × PutAll puts old items tally between × gives_up between new))

-- how much of the text was read, and what was found of it
abbrev pub EndsReading : Result Tally (InputEnd TableFault) → Option (List ℕ) → List ℕ → Type 0
EndsReading (Ok tally) rest text = IsWhole most_file_bytes rest text × (refused text ≡ None)
EndsReading (Err (Cut (Refused r))) rest text = IsWhole most_file_bytes rest text
    × ((refused text ≡ Some r) ⊎ (r ≡ Memory))
EndsReading (Err (Cut (Fault f))) rest text = IsWhole most_file_bytes rest text
EndsReading (Err TooLong) rest text = length text ≡ most_file_bytes + 1
EndsReading (Err ReadFault) rest text = length text ≤ most_file_bytes

-- all entries of the text were put and counted, or some were put
abbrev pub PutsText : {K : Type 0} → (K → Item → Put → K → Type 0) → (K → K → Type 0)
    → Result Tally (InputEnd TableFault) → List ℕ → K → K → Type 0
PutsText puts gives_up (Ok tally) text old new = PutAll puts old (entries_of (lines_of text)) tally
    new
PutsText puts gives_up (Err end) text old new = PutSome puts gives_up old new

-- A text was read, and its entries were put.
pub record PutsFile {K : Type 0} (puts : K → Item → Put → K → Type 0) (gives_up : K → K → Type 0)
    (result : Result Tally (InputEnd TableFault)) (rest : Option (List ℕ)) (text : List ℕ)
    (old new : K) : Type 0 where
  pub ends : EndsReading result rest text
  pub put : PutsText puts gives_up result text old new
