-- What was asked of the registry, and the list of what it accepted.
use Rattle.std.specs.Prelude.{ℕ, Bool, true, false, List, [], ◌∷◌, length, Option}
use Rattle.pid_file.specs.declared.path.Path.{Path}
use Rattle.pid_moderation.specs.declared.command.Expected.{Expected}
use Rattle.pid_moderation.specs.declared.command.Proposal.{Proposal}
use Rattle.pid_moderation.specs.declared.command.Reply.{Reply}
use Rattle.pid_moderation.specs.declared.command.Act.{Act}
use Rattle.pid_moderation.specs.declared.command.Act.TheVariants as acts
use Rattle.pid_moderation.specs.declared.command.Command.{Command}
use Rattle.pid_moderation.specs.declared.rank.Rank.{Rank}
use Rattle.pid_moderation.specs.declared.refusal.FileFault.{FileFault}

-- what the file of an import reads to: paths with their names, in any order, as none comes twice;
-- or why it is not imported. Other commands have no file
pub data Reading : Type 0 where
  TooLong : Reading
  Faulty : FileFault → Reading
  Good : List (List ℕ × List ℕ) → Reading

-- what is asked; an import has its reading
pub data Deed : Type 0 where
  Ranks : (who : List ℕ) (rank : Rank) → Deed
  Submits : (path : Path) (proposal : Proposal) (note : List ℕ) → Deed
  Comments : (number : ℕ) (text : List ℕ) → Deed
  Withdraws : (number : ℕ) → Deed
  Approves : (number : ℕ) (expected : Expected) → Deed
  Rejects : (number : ℕ) (reason : List ℕ) → Deed
  Imports : (reading : Reading) → Deed

pub record Asked : Type 0 where
  pub account : List ℕ
  pub key : Option (List ℕ)
  pub deed : Deed

abbrev pub is_import : Act → Bool
is_import (acts.Import file) = true
is_import act = false

-- what a command asks, if the file of an import reads to this
abbrev pub deed_of : Act → Reading → Deed
deed_of (acts.Account who rank) reading = Ranks who rank
deed_of (acts.Submit path proposal note) reading = Submits path proposal note
deed_of (acts.Comment number text) reading = Comments number text
deed_of (acts.Withdraw number) reading = Withdraws number
deed_of (acts.Approve number expected) reading = Approves number expected
deed_of (acts.Reject number reason) reading = Rejects number reason
deed_of (acts.Import file) reading = Imports reading

abbrev pub asked : Command → Reading → Asked
asked command reading = record {
  account = command.account;
  key = command.key;
  deed = deed_of command.act reading;
}

-- a command that was accepted, and its reply
pub record Accepted : Type 0 where
  pub asked : Asked
  pub reply : Reply

-- The accepted commands, the newest outermost. A history has a mark: its first commands, so many,
-- were accepted before the registry began to count changes, as those of a file that was upgraded.
pub data History : Type 0 where
  Begins : (mark : ℕ) → History
  More : (newest : Accepted) (before : History) → History

-- that of a new registry: no command yet, and all that come are counted
abbrev pub new_history : History
new_history = Begins 0

abbrev pub mark_of : History → ℕ
mark_of (Begins mark) = mark
mark_of (More e h) = mark_of h

-- the accepted commands, the newest first
abbrev pub accepted_in : History → List Accepted
accepted_in (Begins mark) = []
accepted_in (More e h) = e ∷ accepted_in h

-- how many commands were accepted
abbrev pub accepted_count : History → ℕ
accepted_count h = length (accepted_in h)
