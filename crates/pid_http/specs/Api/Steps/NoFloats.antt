-- Nothing that an answer shows has a float.
use Rattle.std.specs.Prelude.{◌≡◌, ℕ, List, [], ◌∷◌, Option, Some, None, false, map, refl}
use Rattle.serde_json.specs.Data.{Data}
use Rattle.serde_json.specs.View.{items_of}
use Rattle.serde_json.specs.Written.{has_float, items_have_float}
use Rattle.pid_moderation.specs.ChangePages.{ChangePage}
use Rattle.pid_moderation.specs.RemarkPages.{DiscussionPage}
use Rattle.pid_moderation.specs.declared.command.Proposal.{Proposal}
use Rattle.pid_moderation.specs.declared.command.Proposal.TheVariants.{Name, Removal}
use Rattle.pid_moderation.specs.QueuePages.{QueueEntry}
use Rattle.pid_moderation.specs.SubmissionPages.{Listing, ListingPage}
use Rattle.pid_moderation.specs.Submissions.{Standing}
use Rattle.pid_http.specs.Api.ItemAnswers.{changed_data, changes_data}
use Rattle.pid_http.specs.Api.SubmissionAnswers.{listed_data, now_data, pending_data, placed_data}
use Rattle.pid_http.specs.Api.SubmissionAnswers.{proposed_data, queued_data, remarks_data}
use Rattle.pid_http.specs.Api.SubmissionAnswers.{submissions_data}

-- a name is a text
pub proposed_has_none : (proposal : Proposal) → has_float (proposed_data proposal) ≡ false
proposed_has_none (Name name) = refl
proposed_has_none Removal = refl

-- a pending submission
pub pending_has_none : (s : ℕ × Standing) → has_float (pending_data s) ≡ false
pending_has_none s = rw (proposed_has_none s.1.submitted.proposal) refl

-- the name of today is a text
pub now_has_none : (now : Option (List ℕ)) → has_float (now_data now) ≡ false
now_has_none None = refl
now_has_none (Some name) = refl

-- a submission of the queue
pub queued_has_none : (q : QueueEntry) → has_float (queued_data q) ≡ false
queued_has_none q = rw (proposed_has_none q.standing.submitted.proposal, now_has_none q.now) refl

-- a submission of a page
pub listed_has_none : (l : Listing) → has_float (listed_data l) ≡ false
listed_has_none l = rw (proposed_has_none l.standing.submitted.proposal) refl

-- an array whose rows have none has none
pub items_have_none : {A : Type 0} (f : A → Data) → ((x : A) → has_float (f x) ≡ false)
    → (xs : List A) → items_have_float (items_of (map f xs)) ≡ false
items_have_none f none [] = refl
items_have_none f none (x ∷ xs) = rw (none x) (items_have_none f none xs)

-- pages of such rows
pub changes_have_none : (page : ChangePage) → has_float (changes_data page) ≡ false
changes_have_none page = rw (items_have_none changed_data (λ i. refl) page.items) refl

pub submissions_have_none : (page : ListingPage) → has_float (submissions_data page) ≡ false
submissions_have_none page = rw (items_have_none listed_data listed_has_none page.submissions) refl

pub remarks_have_none : (page : DiscussionPage) → has_float (remarks_data page) ≡ false
remarks_have_none page = rw (
  proposed_has_none page.standing.submitted.proposal,
  items_have_none placed_data (λ p. refl) page.remarks,
) refl
