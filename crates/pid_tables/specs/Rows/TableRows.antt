-- What a row of each table stands for: a choice of this project. The first value of a row is its
-- rowid.
use Rattle.std.specs.Prelude.{ℕ, ℤ, pos, List, [], ◌∷◌}
use Rattle.sqlite.specs.declared.types.Value.{Value}
use Rattle.sqlite.specs.declared.types.Value.TheVariants.{Null, Int, Text}
use Rattle.sqlite.specs.Order.{Row}
use Rattle.pid_ident.specs.PathTexts.{path_text}
use Rattle.pid_moderation.specs.declared.command.Proposal.{Proposal}
use Rattle.pid_moderation.specs.declared.command.Proposal.TheVariants.{Name, Removal}
use Rattle.pid_moderation.specs.declared.command.Reply.{Reply}
use Rattle.pid_moderation.specs.declared.command.Reply.TheVariants.{Done, Numbered, Counts}
use Rattle.pid_moderation.specs.declared.facts.State.{State}
use Rattle.pid_moderation.specs.declared.facts.State.TheVariants.{Pending, Approved, Rejected}
use Rattle.pid_moderation.specs.declared.facts.State.TheVariants.{Withdrawn}
use Rattle.pid_moderation.specs.declared.rank.Rank.{Rank}
use Rattle.pid_moderation.specs.Ranks.{rank_number}
use Rattle.pid_moderation.specs.Submissions.{Standing, decider_of, reason_of}
use Rattle.pid_moderation.specs.Views.{Remark}

-- a whole number as a column has it
abbrev pub number : ℕ → Value
number n = Int (pos n)

-- meta: a label and its number
abbrev pub meta_row : ℤ → List ℕ → ℕ → Row
meta_row id label value = Int id ∷ Text label ∷ number value ∷ []

-- account: a name and its rank
abbrev pub account_row : ℤ → List ℕ → Rank → Row
account_row id name rank = Int id ∷ Text name ∷ number (rank_number rank) ∷ []

-- item: the text of a path and its name
abbrev pub item_row : ℤ → List ℕ → List ℕ → Row
item_row id path name = Int id ∷ Text path ∷ Text name ∷ []

-- a name is form 0, and a removal form 1 with no name
abbrev pub form_of : Proposal → ℕ
form_of (Name name) = 0
form_of Removal = 1

-- the name that is proposed
abbrev pub name_of : Proposal → List ℕ
name_of (Name name) = name
name_of Removal = []

-- 0 pending, 1 approved, 2 rejected, 3 withdrawn
abbrev pub state_number : State → ℕ
state_number Pending = 0
state_number (Approved decider) = 1
state_number (Rejected decider reason) = 2
state_number Withdrawn = 3

-- submission: its number is the rowid, so the column of the number itself is NULL in storage
abbrev pub submission_row : ℤ → ℕ → Standing → Row
submission_row id n s = number n ∷ Null ∷ Text s.submitted.author
    ∷ Text (path_text s.submitted.path) ∷ number (form_of s.submitted.proposal)
    ∷ Text (name_of s.submitted.proposal)
    ∷ Text s.submitted.note ∷ number (state_number s.state)
    ∷ Text (decider_of s.submitted.author s.state) ∷ Text (reason_of s.state) ∷ []

-- remark: the number of its submission and its place among the remarks on it
abbrev pub remark_row : ℤ → ℕ × ℕ → Remark → Row
remark_row id at remark = Int id ∷ number at.0 ∷ number at.1 ∷ Text remark.author ∷ Text remark.text
    ∷ []

-- 0 done, 1 a number, 2 counts
abbrev pub reply_kind : Reply → ℕ
reply_kind Done = 0
reply_kind (Numbered n) = 1
reply_kind (Counts added renamed same) = 2

-- the numbers of a reply, 0 if it has none
abbrev pub first_number : Reply → ℕ
first_number Done = 0
first_number (Numbered n) = n
first_number (Counts added renamed same) = added

abbrev pub second_number : Reply → ℕ
second_number Done = 0
second_number (Numbered n) = 0
second_number (Counts added renamed same) = renamed

abbrev pub third_number : Reply → ℕ
third_number Done = 0
third_number (Numbered n) = 0
third_number (Counts added renamed same) = same

-- receipt: an account and its key, with the reply
abbrev pub receipt_row : ℤ → List ℕ × List ℕ → Reply → Row
receipt_row id at reply = Int id ∷ Text at.0 ∷ Text at.1 ∷ number (reply_kind reply)
    ∷ number (first_number reply) ∷ number (second_number reply) ∷ number (third_number reply) ∷ []

-- item_since: the text of a path, and the number of the last change of its name
abbrev pub since_row : ℤ → List ℕ → ℕ → Row
since_row id path since = Int id ∷ Text path ∷ number since ∷ []
