-- Submissions as they stand: a choice of this project.
use Rattle.std.specs.Prelude.{ℕ, List, [], Option, option_map, map}
use Rattle.pid_moderation.specs.declared.facts.State.{State}
use Rattle.pid_moderation.specs.declared.facts.State.TheVariants.{Pending, Approved, Rejected}
use Rattle.pid_moderation.specs.declared.facts.State.TheVariants.{Withdrawn}
use Rattle.pid_moderation.specs.declared.lists.Submission.{Submission}
use Rattle.pid_moderation.specs.declared.lists.Comment.{Comment}
use Rattle.pid_moderation.specs.declared.lists.Discussion.{Discussion}
use Rattle.pid_moderation.specs.Views.{Views, Submitted, Remark, submission_at}

-- a submission, and what became of it
pub record Standing : Type 0 where
  pub submitted : Submitted
  pub state : State

-- who decided; who withdraws is the author, and a pending one has nobody
abbrev pub decider_of : List ℕ → State → List ℕ
decider_of author Pending = []
decider_of author (Approved decider) = decider
decider_of author (Rejected decider reason) = decider
decider_of author Withdrawn = author

-- a rejection alone has a reason
abbrev pub reason_of : State → List ℕ
reason_of Pending = []
reason_of (Approved decider) = []
reason_of (Rejected decider reason) = reason
reason_of Withdrawn = []

-- the submission with a number, as it stands
abbrev pub standing_in : Views → ℕ → Option Standing
standing_in v n = option_map (λ s. record { submitted = s; state = v.state n })
    (submission_at n v.submits)

-- the same with the remarks on it, in their order
abbrev pub discussion_in : Views → ℕ → Option (Standing × List Remark)
discussion_in v number = option_map (λ s. (s, v.remarks number)) (standing_in v number)

-- the values of the code that stand for these
abbrev pub standing_of : Submission → Standing
standing_of s = record {
  submitted = record { author = s.author; path = s.path; proposal = s.proposal; note = s.note };
  state = s.state;
}

abbrev pub remark_of : Comment → Remark
remark_of comment = record { author = comment.author; text = comment.text }

abbrev pub discussion_of : Discussion → Standing × List Remark
discussion_of d = (standing_of d.submission, map remark_of d.remarks.items)
