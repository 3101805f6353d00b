-- Submissions in answers, and the remarks on them: choices of this project. A submission has its
-- number, and a remark of a page its place.
use Rattle.std.specs.Prelude.{ℕ, List, Option, Some, None, ◌++◌, codes, decimal}
use Rattle.std.specs.List.{flat_map}
use Rattle.serde_json.specs.Data.{Data, Members, null, number, unsigned, string}
use Rattle.serde_json.specs.Data.{object, member, no_members}
use Rattle.pid_ident.specs.PathTexts.{path_text}
use Rattle.pid_moderation.specs.QueuePages.{QueueEntry}
use Rattle.pid_moderation.specs.RemarkPages.{DiscussionPage}
use Rattle.pid_moderation.specs.SubmissionPages.{Listing, ListingPage}
use Rattle.pid_moderation.specs.Submissions.{Standing, decider_of, reason_of}
use Rattle.pid_moderation.specs.Views.{Remark}
use Rattle.pid_moderation.specs.declared.command.Proposal.{Proposal}
use Rattle.pid_moderation.specs.declared.command.Proposal.TheVariants.{Name, Removal}
use Rattle.pid_moderation.specs.declared.facts.State.{State}
use Rattle.pid_moderation.specs.declared.facts.State.TheVariants.{Pending, Approved}
use Rattle.pid_moderation.specs.declared.facts.State.TheVariants.{Rejected, Withdrawn}
use Rattle.pid_http_stream.specs.Replies.{Answer}
use Rattle.pid_http.specs.Api.Replying.{answer_in, rows_data, word_line}
use Rattle.pid_http.specs.declared.api.format.Format.{Format}

-- the name that is proposed; null for a removal
abbrev pub proposed_data : Proposal → Data
proposed_data (Name name) = string name
proposed_data Removal = null

-- name PC/8086 Intel; remove PC/8086
abbrev pub proposal_words : Proposal → List ℕ → List ℕ
proposal_words (Name name) path = codes "name " ++ path ++ codes " " ++ name
proposal_words Removal path = codes "remove " ++ path

-- its state, in one word
abbrev pub state_word : State → List ℕ
state_word Pending = codes "pending"
state_word (Approved decider) = codes "approved"
state_word (Rejected decider reason) = codes "rejected"
state_word Withdrawn = codes "withdrawn"

-- {"author":"alice","name":"Intel","num":1,"path":"PC/8086"}
abbrev pub pending_members : ℕ → Standing → Members
pending_members n s =
    member (codes "author") (string s.submitted.author)
    (member (codes "name") (proposed_data s.submitted.proposal)
    (member (codes "num") (number (unsigned n))
    (member (codes "path") (string (path_text s.submitted.path)) no_members)))

abbrev pub pending_data : ℕ × Standing → Data
pending_data (n, s) = object (pending_members n s)

-- 1 alice name PC/8086 Intel
abbrev pub pending_line : ℕ × Standing → List ℕ
pending_line (n, s) =
    decimal n ++ codes " " ++ s.submitted.author ++ codes " " ++ proposal_words s.submitted.proposal
    (path_text s.submitted.path) ++ codes "\n"

-- the name that the path has today; null if no item is there
abbrev pub now_data : Option (List ℕ) → Data
now_data None = null
now_data (Some name) = string name

-- in the queue of a moderator:
-- {"author":"alice","name":"Intel","note":"","now":null,"num":1,"path":"PC/8086","remarks":0}
abbrev pub queued_data : QueueEntry → Data
queued_data q =
    object (member (codes "author") (string q.standing.submitted.author)
    (member (codes "name") (proposed_data q.standing.submitted.proposal)
    (member (codes "note") (string q.standing.submitted.note)
    (member (codes "now") (now_data q.now)
    (member (codes "num") (number (unsigned q.number))
    (member (codes "path") (string (path_text q.standing.submitted.path))
    (member (codes "remarks") (number (unsigned q.remarks)) no_members)))))))

-- as that of a pending submission
abbrev pub queued_line : QueueEntry → List ℕ
queued_line q = pending_line (q.number, q.standing)

-- in a page of submissions: the keys author, decider, name, num, path, reason, remarks and state
abbrev pub listed_data : Listing → Data
listed_data l =
    object (member (codes "author") (string l.standing.submitted.author)
    (member (codes "decider") (string (decider_of l.standing.submitted.author l.standing.state))
    (member (codes "name") (proposed_data l.standing.submitted.proposal)
    (member (codes "num") (number (unsigned l.number))
    (member (codes "path") (string (path_text l.standing.submitted.path))
    (member (codes "reason") (string (reason_of l.standing.state))
    (member (codes "remarks") (number (unsigned l.remarks))
    (member (codes "state") (string (state_word l.standing.state)) no_members))))))))

-- 9 approved alice name PC/8086/1237 440FX
abbrev pub listed_line : Listing → List ℕ
listed_line l =
    decimal l.number ++ codes " " ++ state_word l.standing.state ++ codes " "
    ++ l.standing.submitted.author ++ codes " "
    ++ proposal_words l.standing.submitted.proposal (path_text l.standing.submitted.path)
    ++ codes "\n"

-- {"before":0,"submissions":[]}
abbrev pub submissions_data : ListingPage → Data
submissions_data page = object (member (codes "before") (number (unsigned page.before))
    (member (codes "submissions") (rows_data listed_data page.submissions) no_members))

-- before 9801, and a line for each submission
abbrev pub submissions_text : ListingPage → List ℕ
submissions_text page = word_line (codes "before") (decimal page.before)
    ++ flat_map listed_line page.submissions

-- {"author":"alice","text":"seen"}
abbrev pub remark_data : Remark → Data
remark_data remark = object (member (codes "author") (string remark.author)
    (member (codes "text") (string remark.text) no_members))

-- remark alice seen
abbrev pub remark_line : Remark → List ℕ
remark_line remark = codes "remark " ++ word_line remark.author remark.text

-- the keys author, decider, name, note, num, path and reason of one that is shown alone, and others
abbrev pub standing_members : ℕ → Standing → Members → Members
standing_members n s others =
    member (codes "author") (string s.submitted.author)
    (member (codes "decider") (string (decider_of s.submitted.author s.state))
    (member (codes "name") (proposed_data s.submitted.proposal)
    (member (codes "note") (string s.submitted.note)
    (member (codes "num") (number (unsigned n))
    (member (codes "path") (string (path_text s.submitted.path))
    (member (codes "reason") (string (reason_of s.state)) others))))))

-- and the keys remarks and state
abbrev pub submission_data : ℕ → Standing × List Remark → Data
submission_data n (s, remarks) = object (standing_members n s
    (member (codes "remarks") (rows_data remark_data remarks)
    (member (codes "state") (string (state_word s.state)) no_members)))

-- the name that is proposed, or that the item is to be removed
abbrev pub proposal_line : Proposal → List ℕ
proposal_line (Name name) = word_line (codes "name") name
proposal_line Removal = codes "remove\n"

-- the submission in lines, each a word and what it says
abbrev pub standing_text : ℕ → Standing → List ℕ
standing_text n s =
    word_line (codes "num") (decimal n) ++ word_line (codes "author") s.submitted.author
    ++ word_line (codes "path") (path_text s.submitted.path)
    ++ proposal_line s.submitted.proposal ++ word_line (codes "note") s.submitted.note ++ word_line
    (codes "state") (state_word s.state)
    ++ word_line (codes "decider") (decider_of s.submitted.author s.state) ++ word_line
    (codes "reason") (reason_of s.state)

-- the submission with a number; its lines, and one for each remark
abbrev pub submission_answer : Format → ℕ → Standing × List Remark → Answer
submission_answer format n (s, remarks) = answer_in format 200 (submission_data n (s, remarks))
    (standing_text n s ++ flat_map remark_line remarks)

-- {"author":"alice","place":1,"text":"seen"}
abbrev pub placed_data : ℕ × Remark → Data
placed_data (place, remark) = object (member (codes "author") (string remark.author)
    (member (codes "place") (number (unsigned place))
    (member (codes "text") (string remark.text) no_members)))

-- remark 1 alice seen
abbrev pub placed_line : ℕ × Remark → List ℕ
placed_line (place, remark) = codes "remark " ++ decimal place ++ codes " "
    ++ word_line remark.author remark.text

-- the keys author, count, decider, name, note, num, path, reason, remarks and state
abbrev pub remarks_data : DiscussionPage → Data
remarks_data page =
    object (member (codes "author") (string page.standing.submitted.author)
    (member (codes "count") (number (unsigned page.count))
    (member (codes "decider") (string (decider_of page.standing.submitted.author page.standing.state))
    (member (codes "name") (proposed_data page.standing.submitted.proposal)
    (member (codes "note") (string page.standing.submitted.note)
    (member (codes "num") (number (unsigned page.number))
    (member (codes "path") (string (path_text page.standing.submitted.path))
    (member (codes "reason") (string (reason_of page.standing.state))
    (member (codes "remarks") (rows_data placed_data page.remarks)
    (member (codes "state") (string (state_word page.standing.state)) no_members))))))))))

-- the submission in lines, then the count of the remarks on it, and a line for each of the page
abbrev pub remarks_text : DiscussionPage → List ℕ
remarks_text page = standing_text page.number page.standing
    ++ word_line (codes "count") (decimal page.count) ++ flat_map placed_line page.remarks
