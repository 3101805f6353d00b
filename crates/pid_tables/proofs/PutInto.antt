-- A file put into a transaction on the tables.
use Rattle.std.proofs.Common.{◌≡◌, ℕ, List, Option, Result, Ok}
use Rattle.sqlite.specs.State.{State, HasCleanDisk}
use Rattle.pid_tables.specs.Rows.Steps.Batches.{Batches}
use Rattle.pid_reader.specs.LookingBack.{Item}
use Rattle.pid_reader.specs.Lines.{lines_of}
use Rattle.pid_reader.specs.Reading.{entries_of}
use Rattle.pid_file.specs.declared.whole_input.InputEnd.{InputEnd}
use Rattle.pid_moderation.specs.Views.{Views}
use Rattle.pid_tables.specs.declared.rows.fault.TableFault.{TableFault}
use Rattle.pid_tables.specs.Rows.Steps.Within.{KeepsCommitted, Within}
use Rattle.pid_tables.specs.Rows.Shows.{Counts, counts_of}
use Rattle.pid_tables.specs.declared.putting.Put.{Put}
use Rattle.pid_tables.specs.declared.tally.Tally.{Tally}
use Rattle.pid_tables.specs.Steps.ImportClauses.{Puts, GivesUp}
use Rattle.pid_tables.specs.Steps.PutFiles.{PutSome, PutsFile}
use Rattle.pid_tables.specs.Steps.Putting.{put_in_turn}
use Rattle.pid_tables.specs.Steps.Tallies.{tally_of}
use Rattle.pid_tables.proofs.FilePut.{some_put}
use Rattle.pid_tables.proofs.ImportPuts.{some_holds, some_same, some_clean, all_within, all_tally}

module _ {S : Type 0} (batch : Batches S) where
  -- as the putter's members say of a transaction
  abbrev pub puts : ℕ → S → Item → Put → S → Type 0
  puts n s item put t = (batch.reference t ≡ batch.reference s) × Puts batch.state n s t item put

  abbrev pub gives_up : S → S → Type 0
  gives_up s t = (batch.reference t ≡ batch.reference s) × GivesUp batch.state s t

  abbrev pub shown : S → State
  shown s = batch.state s

  module _ (n : ℕ) (r : Result Tally (InputEnd TableFault)) (rest : Option (List ℕ)) (text : List ℕ) (start end : S) (put : PutsFile (puts n) gives_up r rest text start end) where
    some : PutSome (puts n) gives_up start end
    some = some_put (puts n) gives_up r rest text start end put

    pub put_name : batch.reference end ≡ batch.reference start
    put_name = some_same (λ (s : S). batch.reference s) (puts n) gives_up (λ s item put t h. h.0) (λ s t h. h.0) start end some

    pub put_clean : HasCleanDisk (shown end) → HasCleanDisk (shown start)
    put_clean = some_clean n shown (puts n) gives_up (λ s item put t h. h.1) (λ s t h. h.1) start end some

    pub put_limit : (batch.state end).step_limit ≡ (batch.state start).step_limit
    put_limit = some_same (λ (s : S). (batch.state s).step_limit) (puts n) gives_up (λ s item put t h. h.1.limit) (λ s t h. h.1.limit) start end some

    pub put_holds : (c : Counts) (v w : Views) → Within c (shown start) v w → KeepsCommitted (shown end) v
    put_holds = some_holds n shown (puts n) gives_up (λ s item put t h. h.1) (λ s t h. h.1) start end some

  module _ (n : ℕ) (tally : Tally) (rest : Option (List ℕ)) (text : List ℕ) (start end : S) (put : PutsFile (puts n) gives_up (Ok tally) rest text start end) (v : Views) (begun : Within (counts_of v) (shown start) v v) where
    pub put_within : Within (counts_of v) (shown end) v (put_in_turn n (entries_of (lines_of text)) v)
    put_within = all_within n shown (puts n) gives_up (λ s item put t h. h.1) (λ s t h. h.1) start end (entries_of (lines_of text)) tally put.put (counts_of v) v v begun

    pub put_tally : HasCleanDisk (shown end) → tally ≡ tally_of v.items (entries_of (lines_of text))
    put_tally clean = all_tally n shown (puts n) gives_up (λ s item put t h. h.1) (λ s t h. h.1) start end (entries_of (lines_of text)) tally put.put clean (counts_of v) v v begun
