-- What comes of a command before anything is written.
use Rattle.std.specs.Prelude.{◌≡◌, ◌≢◌, ◌⊎◌, false, Result, Ok, Err, IfErr}
use Rattle.sqlite.specs.State.{State}
use Rattle.pid_moderation.specs.declared.change.Change.{Change}
use Rattle.pid_moderation.specs.declared.command.Command.{Command}
use Rattle.pid_moderation.specs.declared.command.Reply.{Reply}
use Rattle.pid_moderation.specs.declared.facts.Facts.{Facts}
use Rattle.pid_moderation.specs.declared.refusal.Refusal.{Refusal}
use Rattle.pid_moderation.specs.declared.refusal.Refusal.TheVariants.{Failed}
use Rattle.pid_moderation.specs.FactsOfViews.{facts_of}
use Rattle.pid_moderation.specs.Changes.{changed, FitsViews}
use Rattle.pid_moderation.specs.History.{Asked, History, Reading, asked, is_import}
use Rattle.pid_moderation.specs.Judgement.{Accepts, judge, answer, after}
use Rattle.pid_moderation.specs.Views.{views_of}
use Rattle.pid_tables.specs.Rows.Clauses.{AtRest, HasCleanDisk, OnlyReads}
use Rattle.pid_tables.specs.declared.database.Database.{Ghosts}
use Rattle.pid_service.specs.declared.judging.Judged.{Judged}
use Rattle.pid_tables.specs.declared.tables.Tables.{Tables}
use Rattle.pid_service.specs.declared.judging.Judged.TheVariants.{Kept, Accepted}
use Rattle.pid_service.specs.Asking.{IsCausedAs}
use Rattle.pid_service.specs.Histories.{IsMemoryOrStore, IsReached}

-- An accepted command has a change, which leads from what the history shows to what it shows with
-- the command.
pub record AcceptsWith (h : History) (c : Asked) (change : Change) (reply : Reply) : Type 0 where
  pub judged : judge (views_of h) c ≡ Accepts reply
  pub leads : views_of (after h c) ≡ changed change (views_of h)
  pub fits : FitsViews change (views_of h)

-- A reply that was kept changes nothing. A refusal is that of the judgement and changes nothing, or
-- memory ran out or the store failed.
abbrev pub JudgesCommand : History → Asked → Result Judged Refusal → Type 0
JudgesCommand h c (Ok (Kept reply)) = (answer (judge (views_of h) c) ≡ Ok reply) × (after h c ≡ h)
JudgesCommand h c (Ok (Accepted change reply)) = AcceptsWith h c change reply
JudgesCommand h c (Err e) = ((answer (judge (views_of h) c) ≡ Err e) × (after h c ≡ h)) ⊎ IsMemoryOrStore e

-- this holds of each history of which these are the facts, and of the command, whatever file it is
-- taken to have
abbrev pub OverFacts : Facts → Command → (History → Asked → Type 0) → Type 0
OverFacts facts command Holds = (h : History) (reading : Reading)
    → facts ≡ facts_of (views_of h) (asked command reading) → Holds h (asked command reading)

module _ {S : Type 0} (state : S → State) where
  -- while the disk returns what was written, this holds of the history that the tables showed, and
  -- of a command that is no import, whatever file it is taken to have
  abbrev pub OverTables : S → S → Command → (History → Asked → Type 0) → Type 0
  OverTables old new command Holds = HasCleanDisk state new → (h : History) (reading : Reading)
      → IsReached h → AtRest state old (views_of h) → is_import command.act ≡ false
      → Holds h (asked command reading)

  -- the judgement refuses it so, or a fault has its cause in the call
  abbrev pub IsJudgedFor : S → S → History → Asked → Refusal → Type 0
  IsJudgedFor old new h c e = (answer (judge (views_of h) c) ≡ Err e)
      ⊎ IsCausedAs state old new e

module _ {S : Type 0} (database : Ghosts S) where
  -- a command other than an import was judged over the tables, which were only read
  pub record Judges (old new : Tables S database) (command : Command)
      (result : Result Judged Refusal) : Type 0 where
    pub rests : OnlyReads database.state old.conn new.conn
    pub judged : OverTables database.state old.conn new.conn command
        (λ h c. JudgesCommand h c result)
    pub caused : OverTables database.state old.conn new.conn command
        (λ h c. IfErr result (IsJudgedFor database.state old.conn new.conn h c))
    pub alive : IfErr result (λ e. e ≢ Failed)
