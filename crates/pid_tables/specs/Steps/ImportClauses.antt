-- Steps of ImportClauses.
use Rattle.std.specs.Prelude.{◌≡◌, ◌≢◌, ℕ, List, Result, IfErr}
use Rattle.sqlite.specs.State.{State}
use Rattle.pid_tables.specs.Rows.Steps.Batches.{Batches}
use Rattle.pid_moderation.specs.declared.command.Command.{Command}
use Rattle.pid_moderation.specs.declared.command.Reply.{Reply}
use Rattle.pid_moderation.specs.declared.facts.Facts.{Facts}
use Rattle.pid_moderation.specs.Files.{file_reading}
use Rattle.pid_moderation.specs.History.{Asked, History, asked}
use Rattle.pid_moderation.specs.Items.{Items}
use Rattle.pid_moderation.specs.Views.{Views, views_of}
use Rattle.pid_reader.specs.Lines.{lines_of}
use Rattle.pid_reader.specs.Reading.{entries_of}
use Rattle.pid_tables.specs.Importing.{StopIsNotFailed}
use Rattle.pid_tables.specs.Judging.{WhereOpen}
use Rattle.pid_tables.specs.Rows.Clauses.{HasCleanDisk}
use Rattle.pid_tables.specs.Rows.Steps.Clauses.{KeepsCommitted, Within}
use Rattle.pid_tables.specs.Rows.Shows.{Counts, counts_of}
use Rattle.pid_tables.specs.declared.put_file.Stop.{Stop}
use Rattle.pid_tables.specs.declared.put_file.Stop.TheVariants as stops
use Rattle.pid_tables.specs.declared.tally.Tally.{Tally}
use Rattle.pid_tables.specs.Steps.ImportParts.{IsNext, IsPut}
use Rattle.pid_tables.specs.Steps.Importing as importing
use Rattle.pid_tables.specs.Steps.Putting as putting
use Rattle.pid_tables.specs.Steps.Putting.{put_in_turn}
use Rattle.pid_reader.specs.LookingBack.{Item}
use Rattle.pid_tables.specs.declared.putting.Put.{Put}

module _ {S : Type 0} (state : S → State) where
  abbrev pub Applies : S → Result Reply Stop → History → Asked → Type 0
  Applies conn result h c = importing.Applies result (state conn) h c

  -- the transaction holds the history and shows it with these pairs put
  abbrev pub HoldsPut : S → History → ℕ → Items → Type 0
  HoldsPut conn h n pairs = Within state conn (counts_of (views_of h)) (views_of h)
      (put_in_turn n pairs (views_of h))

  abbrev pub Puts : ℕ → S → S → Item → Put → Type 0
  Puts n old new item put = putting.Puts n (state old) (state new) item put

  abbrev pub GivesUp : S → S → Type 0
  GivesUp old new = putting.GivesUp (state old) (state new)

module _ {S : Type 0} (batch : Batches S) where
  -- the rest of an import whose file was put, in the transaction
  pub record AppliesFile (command : Command) (facts : Facts) (items : ℕ) (tally : Tally)
      (old new : S) (result : Result Reply Stop) : Type 0 where
    pub same_reference : batch.reference new ≡ batch.reference old
    pub clean : HasCleanDisk batch.state new → HasCleanDisk batch.state old
    pub limit : (batch.state new).step_limit ≡ (batch.state old).step_limit
    pub holds : (c : Counts) (v w : Views) → Within batch.state old c v w
        → KeepsCommitted batch.state new v
    pub applied : (h : History) (text : List ℕ) (n : ℕ)
        → WhereOpen h command facts items (IsPut h text tally → IsNext facts.revision n
        → HoldsPut batch.state old h n (entries_of (lines_of text))
        → Applies batch.state new result h (asked command (file_reading text)))
    pub reads : IfErr result (λ e. e ≢ stops.Body)
    pub alive : IfErr result StopIsNotFailed
