-- What is known of an import before its file is read.
use Rattle.std.specs.Prelude.{◌≡◌, ◌≢◌, ◌⊎◌, ℕ, true, length, Result, Ok, Err, IfErr}
use Rattle.pid_moderation.specs.declared.command.Command.{Command}
use Rattle.pid_moderation.specs.declared.command.Reply.{Reply}
use Rattle.pid_moderation.specs.declared.facts.Facts.{Facts}
use Rattle.pid_moderation.specs.declared.refusal.Refusal.{Refusal}
use Rattle.pid_moderation.specs.declared.refusal.Refusal.TheVariants.{Failed}
use Rattle.pid_moderation.specs.BeforeFile.{SettlesImport, WaitsForFile}
use Rattle.pid_moderation.specs.FactsOfViews.{NoRows, facts_at}
use Rattle.pid_moderation.specs.History.{History, is_import}
use Rattle.pid_moderation.specs.Revisions.{IsMarked}
use Rattle.pid_moderation.specs.Views.{views_of, items_of}
use Rattle.pid_tables.specs.declared.judging.Early.{Early}
use Rattle.pid_tables.specs.declared.judging.Early.TheVariants.{Answered, Open}
use Rattle.sqlite.specs.State.{State}
use Rattle.pid_tables.specs.Faults.{IsCausedRefusal, IsMemoryOrStore}

-- the import depends on its file, and these are its facts without it
pub record IsOpen (h : History) (command : Command) (f : Facts) : Type 0 where
  pub facts : f ≡ facts_at (views_of h) command.account command.key NoRows
  pub waits : WaitsForFile f

-- this holds if an import over a marked history depends on its file, with these facts and so many
-- items
abbrev pub WhereOpen : History → Command → Facts → ℕ → Type 0 → Type 0
WhereOpen h command facts items Holds = IsMarked h → is_import command.act ≡ true
    → IsOpen h command facts → items ≡ length (items_of h) → Holds

-- that is the answer whatever the file reads to, if it is not too long; or there was no memory, or
-- the store failed
abbrev pub HasOneOutcome : History → Command → Result Reply Refusal → Type 0
HasOneOutcome h command (Ok reply) = SettlesImport h command.account command.key (Ok reply)
HasOneOutcome h command (Err e) = SettlesImport h command.account command.key (Err e) ⊎ IsMemoryOrStore e

-- the import is answered, or it depends on its file, and there are so many items
abbrev pub IsJudgedEarly : History → Command → Early → Type 0
IsJudgedEarly h command (Answered result) = HasOneOutcome h command result
IsJudgedEarly h command (Open facts items) = IsOpen h command facts × (items ≡ length (items_of h))

-- a refusal is the answer whatever the file reads to, if it is not too long; or it has its cause in
-- the call
abbrev pub EarlyIsCaused : State → State → History → Command → Early → Type 0
EarlyIsCaused old new h command (Answered (Ok reply)) = Unit {0}
EarlyIsCaused old new h command (Answered (Err e)) =
    SettlesImport h command.account command.key (Err e) ⊎ IsCausedRefusal old new e
EarlyIsCaused old new h command (Open facts items) = Unit {0}

-- it does not say that the registry had failed before
abbrev pub EarlyIsNotFailed : Early → Type 0
EarlyIsNotFailed (Answered result) = IfErr result (λ e. e ≢ Failed)
EarlyIsNotFailed (Open facts items) = Unit {0}
