-- What holds of every history that commands lead to: it is what the storage of a registry keeps.
use Rattle.std.specs.Prelude.{◌≡◌, ℕ, ◌+◌, ◌≤◌, true, false, List, [], ◌∷◌, length, Option, Some}
use Rattle.std.specs.Prelude.{None, is_some, codes}
use Rattle.std.specs.Str.{bytes_eq}
use Rattle.pid_file.specs.Bytes.{is_empty}
use Rattle.pid_file.specs.PathTexts.{IsPath}
use Rattle.pid_file.specs.Words.{is_account, is_key, is_text}
use Rattle.pid_file.specs.Trees.{IsTree}
use Rattle.pid_moderation.specs.declared.command.Reply.{Reply}
use Rattle.pid_moderation.specs.declared.command.Reply.TheVariants.{Done, Numbered, Counts}
use Rattle.pid_moderation.specs.declared.facts.State.{State}
use Rattle.pid_moderation.specs.declared.facts.State.TheVariants.{Pending, Approved, Rejected}
use Rattle.pid_moderation.specs.declared.facts.State.TheVariants.{Withdrawn}
use Rattle.pid_moderation.specs.declared.rank.Rank.TheVariants.{Administrator}
use Rattle.pid_moderation.specs.History.{Accepted, History, accepted_in}
use Rattle.pid_moderation.specs.Views.{Submitted, Remark, rank_of, submits_of, submission_at}
use Rattle.pid_moderation.specs.Views.{state_of, remarks_of, items_of, kept_of}
use Rattle.pid_moderation.specs.Writes.{tree_of}
use Rattle.pid_moderation.specs.WellMade.{ProposesName}
use Rattle.pid_moderation.specs.CheckTables.{most_items, most_submissions, most_remarks}
use Rattle.pid_moderation.specs.Ranks.{has_rank}

abbrev pub IsRegistered : List ℕ → History → Type 0
IsRegistered account h = is_some (rank_of account h) ≡ true

-- a submission of an account, as its type keeps it
pub record IsGoodSubmission (h : History) (s : Submitted) : Type 0 where
  pub author : IsRegistered s.author h
  pub path : IsPath s.path
  pub proposal : ProposesName s.proposal
  pub note : is_text s.note ≡ true

abbrev pub AreGoodSubmissions : History → List Submitted → Type 0
AreGoodSubmissions h [] = Unit {0}
AreGoodSubmissions h (s ∷ ss) = IsGoodSubmission h s × AreGoodSubmissions h ss

-- who decided is an account other than the author; a reason is not empty
abbrev pub IsDecidedByOther : History → List ℕ → State → Type 0
IsDecidedByOther h author Pending = Unit {0}
IsDecidedByOther h author (Approved decider) = (bytes_eq decider author ≡ false)
    × IsRegistered decider h
IsDecidedByOther h author (Rejected decider reason) = (bytes_eq decider author ≡ false)
    × IsRegistered decider h × (is_text reason ≡ true) × (is_empty reason ≡ false)
IsDecidedByOther h author Withdrawn = Unit {0}

-- the state of a submission; what is not yet submitted is pending
abbrev pub IsDecidedWell : History → Option Submitted → State → Type 0
IsDecidedWell h None state = state ≡ Pending
IsDecidedWell h (Some s) state = IsDecidedByOther h s.author state

-- a remark of an account, not empty
pub record IsGoodRemark (h : History) (r : Remark) : Type 0 where
  pub author : IsRegistered r.author h
  pub text : is_text r.text ≡ true
  pub filled : is_empty r.text ≡ false

abbrev pub AreGoodRemarks : History → List Remark → Type 0
AreGoodRemarks h [] = Unit {0}
AreGoodRemarks h (r ∷ rs) = IsGoodRemark h r × AreGoodRemarks h rs

-- the remarks on a submission; there are none on what is not yet submitted
abbrev pub IsRemarkedWell : History → Option Submitted → List Remark → Type 0
IsRemarkedWell h None remarks = remarks ≡ []
IsRemarkedWell h (Some s) remarks = AreGoodRemarks h remarks × (length remarks ≤ most_remarks)

-- a command under a key has its reply kept
abbrev pub HasReceipt : History → List ℕ → Option (List ℕ) → Reply → Type 0
HasReceipt h account None reply = Unit {0}
HasReceipt h account (Some key) reply = kept_of account key h ≡ Some reply

abbrev pub HaveReceipts : List Accepted → History → Type 0
HaveReceipts [] h = Unit {0}
HaveReceipts (e ∷ es) h = HasReceipt h e.asked.account e.asked.key e.reply × HaveReceipts es h

abbrev pub IsSubmissionBy : List ℕ → Option Submitted → Type 0
IsSubmissionBy account None = ⊥
IsSubmissionBy account (Some s) = s.author ≡ account

-- a number is that of a submission of the account, and counts are those of a file that is not too
-- large
abbrev pub IsOwnReply : History → List ℕ → Reply → Type 0
IsOwnReply h account Done = Unit {0}
IsOwnReply h account (Numbered n) = IsSubmissionBy account (submission_at n (submits_of h))
IsOwnReply h account (Counts added renamed same) = added + renamed + same ≤ most_items

pub record IsReceipt (h : History) (who token : List ℕ) (given : Reply) : Type 0 where
  pub account : IsRegistered who h
  pub key : is_key token ≡ true
  pub reply : IsOwnReply h who given

pub record IsSound (h : History) : Type 0 where
  -- each item is a name at a path, and the parent of each path is there
  pub tree : IsTree (tree_of h)
  pub item_limit : length (items_of h) ≤ most_items
  -- `root` is an account, and some account is an administrator
  pub root : IsRegistered (codes "root") h
  pub administrator : (account : List ℕ) × (has_rank Administrator (rank_of account h) ≡ true)
  pub accounts : (account : List ℕ) → IsRegistered account h → is_account account ≡ true
  -- submissions, which count from 1 without a gap by their place in the list
  pub submissions : AreGoodSubmissions h (submits_of h)
  pub submission_limit : length (submits_of h) ≤ most_submissions
  pub deciders : (n : ℕ) → IsDecidedWell h (submission_at n (submits_of h)) (state_of n h)
  pub remarks : (n : ℕ) → IsRemarkedWell h (submission_at n (submits_of h)) (remarks_of n h)
  -- each command under a key has its reply kept, and what is kept is of its account
  pub receipts : HaveReceipts (accepted_in h) h
  pub kept : (account key : List ℕ) (reply : Reply) → kept_of account key h ≡ Some reply
      → IsReceipt h account key reply
