-- The checks of each command with the refusal that each means, in order: choices of this project.
use Rattle.std.specs.Prelude.{◌≡◌, ℕ, ◌+◌, Bool, length, true, false, not, ◌&&◌, nat_lt, nat_le}
use Rattle.std.specs.Prelude.{List, [], ◌∷◌, ◌++◌, find, Option, Some, None}
use Rattle.std.specs.Prelude.{is_none, is_some}
use Rattle.std.specs.Option.{option_map}
use Rattle.std.specs.Str.{bytes_eq}
use Rattle.pid_file.specs.Bytes.{is_empty}
use Rattle.pid_moderation.specs.declared.command.Expected.{Expected}
use Rattle.pid_moderation.specs.declared.command.Expected.TheVariants as expecteds
use Rattle.pid_moderation.specs.declared.command.Proposal.{Proposal}
use Rattle.pid_moderation.specs.declared.command.Proposal.TheVariants as proposals
use Rattle.pid_moderation.specs.declared.command.Reply.{Reply}
use Rattle.pid_moderation.specs.declared.command.Reply.TheVariants.{Done, Numbered, Counts}
use Rattle.pid_moderation.specs.declared.facts.Facts.{Facts}
use Rattle.pid_moderation.specs.declared.facts.NamedSubmission.{NamedSubmission}
use Rattle.pid_moderation.specs.declared.facts.State.{State}
use Rattle.pid_moderation.specs.declared.facts.State.TheVariants as states
use Rattle.pid_moderation.specs.declared.facts.Verdict.{Verdict}
use Rattle.pid_moderation.specs.declared.facts.Verdict.TheVariants as verdicts
use Rattle.pid_moderation.specs.declared.rank.Rank.{Rank}
use Rattle.pid_moderation.specs.declared.rank.Rank.TheVariants.{Senior, Administrator}
use Rattle.pid_moderation.specs.declared.refusal.Refusal.{Refusal}
use Rattle.pid_moderation.specs.declared.refusal.Refusal.TheVariants.{BadText, NoAccount}
use Rattle.pid_moderation.specs.declared.refusal.Refusal.TheVariants.{RankTooLow, NoSubmission}
use Rattle.pid_moderation.specs.declared.refusal.Refusal.TheVariants.{NotPending, NotAuthor}
use Rattle.pid_moderation.specs.declared.refusal.Refusal.TheVariants.{OwnDecision, ParentMissing}
use Rattle.pid_moderation.specs.declared.refusal.Refusal.TheVariants.{HasChildren, NothingToDo}
use Rattle.pid_moderation.specs.declared.refusal.Refusal.TheVariants.{FileFault, Full, Changed}
use Rattle.pid_moderation.specs.declared.command.Act.{Act}
use Rattle.pid_moderation.specs.declared.command.Act.TheVariants as acts
use Rattle.pid_moderation.specs.History.{Reading, TooLong, Deed, Ranks, Submits, Comments}
use Rattle.pid_moderation.specs.History.{Withdraws, Approves, Rejects, Imports, Asked}
use Rattle.pid_moderation.specs.Items.{has_name}
use Rattle.pid_moderation.specs.Ranks.{needed_rank, has_rank, is_rank}

abbrev pub is_pending : State → Bool
is_pending states.Pending = true
is_pending (states.Approved decider) = false
is_pending (states.Rejected decider reason) = false
is_pending states.Withdrawn = false

abbrev pub is_removal : Proposal → Bool
is_removal (proposals.Name name) = false
is_removal proposals.Removal = true

-- the item is as proposed
abbrev pub is_so : Proposal → Option (List ℕ) → Bool
is_so (proposals.Name name) present = has_name name present
is_so proposals.Removal present = is_none present

abbrev pub lacks_parent : Proposal → Bool → Bool
lacks_parent (proposals.Name name) has_parent = not has_parent
lacks_parent proposals.Removal has_parent = false

abbrev pub leaves_children : Proposal → Bool → Bool
leaves_children (proposals.Name name) has_children = false
leaves_children proposals.Removal has_children = has_children

-- the limits of a registry: its items, its submissions, the remarks on one submission, the bytes of
-- a file, and its revision
abbrev pub most_items : ℕ
most_items = 100000

abbrev pub most_submissions : ℕ
most_submissions = 2000000000

abbrev pub most_remarks : ℕ
most_remarks = 1000000

abbrev pub most_file_bytes : ℕ
most_file_bytes = 4194304

abbrev pub most_revision : ℕ
most_revision = 9000000000000000000

-- one item more would be too many
abbrev pub overflows : Proposal → Option (List ℕ) → ℕ → Bool
overflows (proposals.Name name) present items = is_none present && nat_le most_items items
overflows proposals.Removal present items = false

abbrev pub Checks : Type 0
Checks = List (Bool × Refusal)

abbrev pub account_checks : List ℕ → Facts → List ℕ → Rank → Checks
account_checks account f who rank =
    (not (has_rank Administrator f.rank), RankTooLow)
    ∷ (bytes_eq account who, OwnDecision)
    ∷ (is_rank rank f.who, NothingToDo)
    ∷ []

abbrev pub submit_checks : Facts → Checks
submit_checks f = (nat_le most_submissions f.submissions, Full) ∷ []

abbrev pub comment_checks : Facts → NamedSubmission → Checks
comment_checks f s = (nat_le most_remarks f.remarks, Full) ∷ []

abbrev pub withdraw_checks : List ℕ → NamedSubmission → Checks
withdraw_checks account s =
    (not (bytes_eq account s.author), NotAuthor)
    ∷ (not (is_pending s.state), NotPending)
    ∷ []

abbrev pub decision_checks : List ℕ → Option Rank → NamedSubmission → Checks
decision_checks account rank s =
    (not (is_pending s.state), NotPending)
    ∷ (not (has_rank (needed_rank s.path (is_removal s.proposal)) rank), RankTooLow)
    ∷ (bytes_eq account s.author, OwnDecision)
    ∷ []

-- the item is not as an approval expects
abbrev pub is_changed : Expected → Option (List ℕ) → Bool
is_changed expecteds.Anything present = false
is_changed expecteds.Absent present = is_some present
is_changed (expecteds.Named name) present = not (has_name name present)

abbrev pub item_checks : Facts → Expected → NamedSubmission → Checks
item_checks f expected s =
    (is_changed expected f.present, Changed)
    ∷ (is_so s.proposal f.present, NothingToDo)
    ∷ (lacks_parent s.proposal f.has_parent, ParentMissing)
    ∷ (leaves_children s.proposal f.has_children, HasChildren)
    ∷ (overflows s.proposal f.present f.items, Full)
    ∷ []

abbrev pub approval_checks : List ℕ → Facts → Expected → NamedSubmission → Checks
approval_checks account f expected s =
    decision_checks account f.rank s ++ item_checks f expected s

-- the checks of the named submission; if there is none, that is the refusal
abbrev pub if_named : Option NamedSubmission → (NamedSubmission → Checks) → Checks
if_named None checks = (true, NoSubmission) ∷ []
if_named (Some s) checks = checks s

-- an import, whatever its file comes to
abbrev pub import_checks : Facts → Checks
import_checks f = (not (has_rank Senior f.rank), RankTooLow) ∷ []

-- and what its file comes to: `None` is a file that is too long, which the form refuses before
abbrev pub file_checks : Option Verdict → Checks
file_checks None = (true, BadText) ∷ []
file_checks (Some (verdicts.Faulty fault)) = (true, FileFault fault) ∷ []
file_checks (Some (verdicts.Good added renamed same items)) = (nat_lt most_items items, Full) ∷ []

abbrev pub later_checks : List ℕ → Facts → Deed → Checks
later_checks account f (Ranks who rank) = account_checks account f who rank
later_checks account f (Submits path proposal note) = submit_checks f
later_checks account f (Comments n text) = if_named f.named (comment_checks f)
later_checks account f (Withdraws n) = if_named f.named (withdraw_checks account)
later_checks account f (Approves n expected) =
    if_named f.named (approval_checks account f expected)
later_checks account f (Rejects n reason) = if_named f.named (decision_checks account f.rank)
later_checks account f (Imports reading) = import_checks f ++ file_checks f.file

-- those of the command alone
abbrev pub command_checks : Facts → Asked → Checks
command_checks f c = (is_none f.rank, NoAccount) ∷ later_checks c.account f c.deed

-- one command more is not counted
abbrev pub revision_checks : Facts → Checks
revision_checks f = (nat_le most_revision f.revision, Full) ∷ []

-- the last check of every command is that it can be counted
abbrev pub checks : Facts → Asked → Checks
checks f c = command_checks f c ++ revision_checks f

-- the first check that fails
abbrev pub first_failing : Checks → Option Refusal
first_failing cs = option_map (λ c. c.1) (find (λ c. c.0) cs)

-- FORM

-- an empty comment or reason, or a file too long: the file of an import is read here, so that
-- `None` is one that is too long
abbrev pub is_ill_formed : Facts → Deed → Bool
is_ill_formed f (Comments n text) = is_empty text
is_ill_formed f (Rejects n reason) = is_empty reason
is_ill_formed f (Imports reading) = is_none f.file
is_ill_formed f deed = false

-- the same by the command alone, whatever the registry holds
abbrev pub is_broken : Act → Bool
is_broken (acts.Comment n text) = is_empty text
is_broken (acts.Reject n reason) = is_empty reason
is_broken (acts.Import file) = nat_lt most_file_bytes (length file)
is_broken act = false

-- the reading of a file that is too long says so
abbrev pub TellsLength : Act → Reading → Type 0
TellsLength (acts.Import file) reading = nat_lt most_file_bytes (length file) ≡ true
    → reading ≡ TooLong
TellsLength act reading = Unit {0}

-- REPLIES

-- a file that is not imported counts nothing; `None` is one that is too long
abbrev pub import_reply : Option Verdict → Reply
import_reply (Some (verdicts.Good added renamed same items)) = Counts added renamed same
import_reply (Some (verdicts.Faulty fault)) = Counts 0 0 0
import_reply None = Counts 0 0 0

abbrev pub reply_by_facts : Facts → Deed → Reply
reply_by_facts f (Ranks who rank) = Done
reply_by_facts f (Submits path proposal note) = Numbered (f.submissions + 1)
reply_by_facts f (Comments n text) = Done
reply_by_facts f (Withdraws n) = Done
reply_by_facts f (Approves n expected) = Done
reply_by_facts f (Rejects n reason) = Done
reply_by_facts f (Imports reading) = import_reply f.file
