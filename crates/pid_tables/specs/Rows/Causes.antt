-- Why a call on the tables answers a fault: choices of this project.
use Rattle.std.specs.Prelude.{◌≡◌, ◌⊎◌, ℕ, ◌<◌, ◌^◌, true, false, List, length, Some, IsSome}
use Rattle.std.specs.List.{AllByRecursion}
use Rattle.sqlite_disk.specs.Disk.{MoreFaults}
use Rattle.sqlite.specs.State.{State}
use Rattle.pid_ident.specs.PathTexts.{IsPath}
use Rattle.pid_ident.specs.Words.{is_account, is_text}
use Rattle.pid_moderation.specs.declared.command.Reply.{Reply}
use Rattle.pid_moderation.specs.declared.command.Reply.TheVariants.{Done, Numbered, Counts}
use Rattle.pid_moderation.specs.declared.facts.State.{State as Decision}
use Rattle.pid_moderation.specs.declared.facts.State.TheVariants.{Pending, Approved, Rejected}
use Rattle.pid_moderation.specs.declared.facts.State.TheVariants.{Withdrawn}
use Rattle.pid_moderation.specs.Views.{Views, Submitted, Remark}
use Rattle.pid_moderation.specs.WellMade.{AllItems, ProposesName}
use Rattle.pid_tables.specs.declared.rows.fault.TableFault.{TableFault}
use Rattle.pid_tables.specs.declared.rows.fault.TableFault.TheVariants.{Memory, Store, NewerSchema}
use Rattle.pid_tables.specs.declared.rows.fault.TableFault.TheVariants.{Damaged}

-- Memory may run out at any time. The store is named if the disk failed or refused in the call, if
-- a fault had shut the connection before, or if a limit of steps was set. Tables that show views
-- are of this schema and undamaged.
abbrev pub IsCaused : State → State → TableFault → Type 0
IsCaused old new Memory = Unit {0}
IsCaused old new Store = MoreFaults old.faults new.faults
    ⊎ ((old.is_open ≡ false) ⊎ IsSome old.step_limit)
IsCaused old new (NewerSchema n) = ⊥
IsCaused old new Damaged = ⊥

-- a submission keeps the rules of its words
pub record IsReadableSubmission (s : Submitted) : Type 0 where
  pub author : is_account s.author ≡ true
  pub path : IsPath s.path
  pub proposal : ProposesName s.proposal
  pub note : is_text s.note ≡ true

-- who decided is an account, and a reason is a text
abbrev pub IsReadableState : Decision → Type 0
IsReadableState Pending = Unit {0}
IsReadableState (Approved decider) = is_account decider ≡ true
IsReadableState (Rejected decider reason) = (is_account decider ≡ true) × (is_text reason ≡ true)
IsReadableState Withdrawn = Unit {0}

-- a remark keeps the rules of its words
pub record IsReadableRemark (r : Remark) : Type 0 where
  pub author : is_account r.author ≡ true
  pub text : is_text r.text ≡ true

-- the numbers of a reply fit 32 bits
abbrev pub IsReadableReply : Reply → Type 0
IsReadableReply Done = Unit {0}
IsReadableReply (Numbered n) = n < 2 ^ 32
IsReadableReply (Counts added renamed same) = (added < 2 ^ 32) × (renamed < 2 ^ 32)
    × (same < 2 ^ 32)

-- each value of the views is one that its columns read back to: words keep their rules, and numbers
-- fit 32 bits
pub record IsReadable (v : Views) : Type 0 where
  pub items : AllItems v.items
  pub item_count : length v.items < 2 ^ 32
  pub submissions : AllByRecursion IsReadableSubmission v.submits
  pub submission_count : length v.submits < 2 ^ 32
  pub states : (n : ℕ) → IsReadableState (v.state n)
  pub remarks : (n : ℕ) → AllByRecursion IsReadableRemark (v.remarks n)
  pub remark_count : (n : ℕ) → length (v.remarks n) < 2 ^ 32
  pub replies : (account key : List ℕ) (reply : Reply) → v.kept account key ≡ Some reply
      → IsReadableReply reply
