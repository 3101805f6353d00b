-- What a history shows: each view is the last of, or a filter over, the accepted commands.
use Rattle.std.specs.Prelude.{ℕ, zero, suc, ◌-◌, Bool, false, not, ◌&&◌, ◌==◌, if◌then◌else◌, List}
use Rattle.std.specs.Prelude.{[], ◌∷◌, ◌++◌, slice_get, Option, Some, None, codes}
use Rattle.std.specs.Str.{bytes_eq}
use Rattle.pid_file.specs.PathTexts.{path_text}
use Rattle.pid_file.specs.declared.path.Path.{Path}
use Rattle.pid_moderation.specs.declared.command.Proposal.{Proposal}
use Rattle.pid_moderation.specs.declared.command.Reply.{Reply}
use Rattle.pid_moderation.specs.declared.rank.Rank.{Rank}
use Rattle.pid_moderation.specs.declared.rank.Rank.TheVariants.{Administrator}
use Rattle.pid_moderation.specs.declared.facts.State.{State}
use Rattle.pid_moderation.specs.declared.facts.State.TheVariants.{Pending, Approved, Rejected}
use Rattle.pid_moderation.specs.declared.facts.State.TheVariants.{Withdrawn}
use Rattle.pid_moderation.specs.History.{Reading, TooLong, Faulty, Good, Deed, Ranks, Submits}
use Rattle.pid_moderation.specs.History.{Comments, Withdraws, Approves, Rejects, Imports, Begins}
use Rattle.pid_moderation.specs.History.{More, History, mark_of, accepted_count}
use Rattle.pid_moderation.specs.Items.{Items, name_at, has_name, written, imported}

pub record Submitted : Type 0 where
  pub author : List ℕ
  pub path : Path
  pub proposal : Proposal
  pub note : List ℕ

pub record Remark : Type 0 where
  pub author : List ℕ
  pub text : List ℕ

-- what a history shows, and what the tables keep
pub record Views : Type 0 where
  -- the rank of an account
  pub rank : List ℕ → Option Rank
  -- the submissions; the n-th is number n
  pub submits : List Submitted
  -- whether a submission is pending, or how it ended
  pub state : ℕ → State
  -- the remarks on a submission, in order
  pub remarks : ℕ → List Remark
  pub items : Items
  -- the reply to the command of an account under a key
  pub kept : List ℕ → List ℕ → Option Reply
  -- how many commands were accepted since the mark
  pub revision : ℕ
  -- the number of the last command that added or renamed the item of a path
  pub since : List ℕ → ℕ

-- the rank that the last command on an account set; `root` is an administrator at first
abbrev pub ranked : List ℕ → Deed → Option Rank → Option Rank
ranked a (Ranks who rank) before = if bytes_eq a who then Some rank else before
ranked a deed before = before

abbrev pub rank_of : List ℕ → History → Option Rank
rank_of a (Begins mark) = if bytes_eq a (codes "root") then Some Administrator else None
rank_of a (More e h) = ranked a e.asked.deed (rank_of a h)

abbrev pub submitted : List ℕ → Deed → List Submitted → List Submitted
submitted account (Submits path proposal note) before = before
    ++ record { author = account; path = path; proposal = proposal; note = note } ∷ []
submitted account deed before = before

-- the commands that submit
abbrev pub submits_of : History → List Submitted
submits_of (Begins mark) = []
submits_of (More e h) = submitted e.asked.account e.asked.deed (submits_of h)

-- number n; they are counted from 1
abbrev pub submission_at : ℕ → List Submitted → Option Submitted
submission_at zero submits = None
submission_at (suc n) submits = slice_get submits n

abbrev pub decided : ℕ → List ℕ → Deed → State → State
decided n account (Approves m expected) before = if n == m then Approved account else before
decided n account (Rejects m reason) before = if n == m then Rejected account reason else before
decided n account (Withdraws m) before = if n == m then Withdrawn else before
decided n account deed before = before

-- by the last command that decides it
abbrev pub state_of : ℕ → History → State
state_of n (Begins mark) = Pending
state_of n (More e h) = decided n e.asked.account e.asked.deed (state_of n h)

abbrev pub remarked : ℕ → List ℕ → Deed → List Remark → List Remark
remarked n account (Comments m text) before = if n == m then before
    ++ record { author = account; text = text } ∷ [] else before
remarked n account deed before = before

-- the comments that name it
abbrev pub remarks_of : ℕ → History → List Remark
remarks_of n (Begins mark) = []
remarks_of n (More e h) = remarked n e.asked.account e.asked.deed (remarks_of n h)

abbrev pub carried_out : Option Submitted → Items → Items
carried_out None items = items
carried_out (Some s) items = written (path_text s.path) s.proposal items

-- what is written of a file: nothing of one that is not imported
abbrev pub pairs_of : Reading → Items
pairs_of (Good pairs) = pairs
pairs_of TooLong = []
pairs_of (Faulty fault) = []

abbrev pub itemized : Deed → List Submitted → Items → Items
itemized (Approves n expected) submits before = carried_out (submission_at n submits) before
itemized (Imports reading) submits before = imported (pairs_of reading) before
itemized deed submits before = before

-- what approvals and imports wrote
abbrev pub items_of : History → Items
items_of (Begins mark) = []
items_of (More e h) = itemized e.asked.deed (submits_of h) (items_of h)

abbrev pub receipted : List ℕ → List ℕ → List ℕ → Option (List ℕ) → Reply → Option Reply
    → Option Reply
receipted a k account (Some key) reply before = if bytes_eq a account
    && bytes_eq k key then Some reply else before
receipted a k account None reply before = before

-- the reply to the command of the account under the key
abbrev pub kept_of : List ℕ → List ℕ → History → Option Reply
kept_of a k (Begins mark) = None
kept_of a k (More e h) = receipted a k e.asked.account e.asked.key e.reply (kept_of a k h)

-- how many commands were accepted since the mark
abbrev pub revision_of : History → ℕ
revision_of h = accepted_count h - mark_of h

-- there is a name now, and it is not the one before
abbrev pub is_named_anew : (before now : Option (List ℕ)) → Bool
is_named_anew before None = false
is_named_anew before (Some name) = not (has_name name before)

-- the number of the last command that added the item or changed its name, counted from the mark; 0
-- if that is before the mark, or if there is none
abbrev pub since_of : List ℕ → History → ℕ
since_of path (Begins mark) = 0
since_of path (More e h) = if is_named_anew (name_at path (items_of h))
    (name_at path (items_of (More e h))) then revision_of (More e h) else since_of path h

abbrev pub views_of : History → Views
views_of h = record {
  rank = λ a. rank_of a h;
  submits = submits_of h;
  state = λ n. state_of n h;
  remarks = λ n. remarks_of n h;
  items = items_of h;
  kept = λ a k. kept_of a k h;
  revision = revision_of h;
  since = λ path. since_of path h;
}

-- the views except for the numbers: no revision, and no number of a change
abbrev pub without_numbers : Views → Views
without_numbers v = record v { revision = 0; since = λ path. 0 }
