-- Worked rows, by computation.
use Rattle.std.proofs.Common.{◌≡◌, ℕ, List, [], ◌∷◌, ◌++◌, Some, None, refl}
use Rattle.std.specs.Prelude.{codes, map, take, Result, Ok, Err}
use Rattle.pid_file.specs.declared.path.Path.TheVariants.{Vendor, Device}
use Rattle.pid_file.specs.declared.fault_kind.LineKind.TheVariants.{Duplicate}
use Rattle.pid_moderation.specs.declared.command.Expected.TheVariants.{Anything, Absent}
use Rattle.pid_moderation.specs.declared.command.Expected.TheVariants as expecteds
use Rattle.pid_moderation.specs.declared.command.Proposal.TheVariants.{Name, Removal}
use Rattle.pid_moderation.specs.declared.command.Reply.{Reply}
use Rattle.pid_moderation.specs.declared.command.Reply.TheVariants.{Done, Numbered, Counts}
use Rattle.pid_moderation.specs.declared.refusal.Refusal.{Refusal}
use Rattle.pid_moderation.specs.declared.rank.Rank.TheVariants.{Contributor, Moderator, Senior}
use Rattle.pid_moderation.specs.declared.refusal.FileFault.TheVariants.{Line}
use Rattle.pid_moderation.specs.declared.refusal.Refusal.TheVariants.{Full, NoAccount, RankTooLow, NoSubmission, NotPending, NotAuthor, OwnDecision, ParentMissing, HasChildren, NothingToDo, FileFault, Changed}
use Rattle.pid_moderation.specs.History.{Deed, Reading, Good, Faulty, Ranks, Submits, Comments, Withdraws, Approves, Rejects, Imports, Asked, Begins, History, new_history}
use Rattle.pid_moderation.specs.Views.{Remark, Views, views_of, items_of, revision_of, since_of}
use Rattle.pid_moderation.specs.Changes.{with_pairs}
use Rattle.pid_moderation.specs.CheckTables.{most_revision}
use Rattle.pid_moderation.specs.Revisions.{taken_over}
use Rattle.pid_moderation.specs.Judgement.{answer, answers, after_all, judge}
use Rattle.pid_moderation.specs.declared.facts.State.TheVariants.{Pending, Approved}
use Rattle.pid_moderation.specs.SubmissionPages.{Search, Listing, submissions_of}
use Rattle.pid_moderation.specs.QueuePages.{queue_in}
use Rattle.pid_moderation.specs.RemarkPages.{DiscussionPage, placed_after, remark_page_in}
use Rattle.pid_moderation.specs.RegistryStatus.{status_of_registry}

abbrev by : List ℕ → Deed → Asked
by account deed = record { account = account; key = None; deed = deed }

abbrev under : List ℕ → List ℕ → Deed → Asked
under key account deed = record { account = account; key = Some key; deed = deed }

abbrev root : List ℕ
root = codes "root"

abbrev alice : List ℕ
alice = codes "alice"

abbrev bob : List ℕ
bob = codes "bob"

abbrev first_approval : List Asked
first_approval = by root (Ranks alice Contributor) ∷ by alice (Submits (Vendor 32902) (Name (codes "Intel Corporation")) []) ∷ by alice (Approves 1 Anything) ∷ by root (Approves 1 Anything) ∷ []

first_approval_answers : answers new_history first_approval ≡ Ok Done ∷ Ok (Numbered 1) ∷ Err RankTooLow ∷ Ok Done ∷ []
first_approval_answers = refl

first_approval_items : items_of (after_all new_history first_approval) ≡ (codes "PC/8086", codes "Intel Corporation") ∷ []
first_approval_items = refl

-- the three accepted commands, and then an import of the same name with a new item: the fourth adds that alone
abbrev with_realtek : List Asked
with_realtek = first_approval ++ by root (Imports (Good ((codes "PC/8086", codes "Intel Corporation") ∷ (codes "PC/10ec", codes "Realtek") ∷ []))) ∷ []

with_realtek_revision : revision_of (after_all new_history with_realtek) ≡ 4
with_realtek_revision = refl

with_realtek_same : since_of (codes "PC/8086") (after_all new_history with_realtek) ≡ 3
with_realtek_same = refl

with_realtek_added : since_of (codes "PC/10ec") (after_all new_history with_realtek) ≡ 4
with_realtek_added = refl

-- what is written of that file has the number of its command where it is new
with_realtek_pairs : map (with_pairs ((codes "PC/8086", codes "Intel Corporation") ∷ (codes "PC/10ec", codes "Realtek") ∷ []) (views_of (after_all new_history first_approval))).since (codes "PC/8086" ∷ codes "PC/10ec" ∷ codes "PC/1234" ∷ []) ≡ 3 ∷ 4 ∷ 0 ∷ []
with_realtek_pairs = refl

-- a file with these three is taken over: nothing has changed yet
abbrev taken : History
taken = taken_over (after_all new_history first_approval)

taken_from_its_beginning : taken ≡ after_all (Begins 3) first_approval
taken_from_its_beginning = refl

taken_revision : revision_of taken ≡ 0
taken_revision = refl

taken_since : since_of (codes "PC/8086") taken ≡ 0
taken_since = refl

-- then the item is removed, and an import adds it again
abbrev added_again : List Asked
added_again = by alice (Submits (Vendor 32902) Removal []) ∷ by root (Approves 2 Anything) ∷ by root (Imports (Good ((codes "PC/8086", codes "X") ∷ []))) ∷ []

added_again_answers : answers taken added_again ≡ Ok (Numbered 2) ∷ Ok Done ∷ Ok (Counts 1 0 0) ∷ []
added_again_answers = refl

added_again_revision : revision_of (after_all taken added_again) ≡ 3
added_again_revision = refl

added_again_since : since_of (codes "PC/8086") (after_all taken added_again) ≡ 3
added_again_since = refl

abbrev device_waits_for_vendor : List Asked
device_waits_for_vendor = by root (Ranks bob Moderator) ∷ by bob (Submits (Device 32902 4663) (Name (codes "440FX")) []) ∷ by root (Approves 1 Anything) ∷ by bob (Submits (Vendor 32902) (Name (codes "Intel")) []) ∷ by root (Approves 2 Anything) ∷ by root (Approves 1 Anything) ∷ []

device_waits_for_vendor_answers : answers new_history device_waits_for_vendor ≡ Ok Done ∷ Ok (Numbered 1) ∷ Err ParentMissing ∷ Ok (Numbered 2) ∷ Ok Done ∷ Ok Done ∷ []
device_waits_for_vendor_answers = refl

device_waits_for_vendor_items : items_of (after_all new_history device_waits_for_vendor) ≡ (codes "PC/8086", codes "Intel") ∷ (codes "PC/8086/1237", codes "440FX") ∷ []
device_waits_for_vendor_items = refl

-- a rename is confirmed where the name is the one that was seen
abbrev confirmations : List Asked
confirmations = by bob (Submits (Vendor 32902) (Name (codes "Intel Corporation")) []) ∷ by root (Approves 3 Absent) ∷ by root (Approves 3 (expecteds.Named (codes "Intel Corporation"))) ∷ by root (Approves 3 (expecteds.Named (codes "Intel"))) ∷ by root (Approves 3 (expecteds.Named (codes "Intel"))) ∷ []

confirmations_answers : answers (after_all new_history device_waits_for_vendor) confirmations ≡ Ok (Numbered 3) ∷ Err Changed ∷ Err Changed ∷ Ok Done ∷ Err NotPending ∷ []
confirmations_answers = refl

abbrev removals : List Asked
removals = by bob (Submits (Vendor 32902) Removal []) ∷ by root (Approves 3 Anything) ∷ by bob (Submits (Device 32902 4663) Removal []) ∷ by root (Approves 4 Anything) ∷ by root (Approves 3 Anything) ∷ []

removals_answers : answers (after_all new_history device_waits_for_vendor) removals ≡ Ok (Numbered 3) ∷ Err HasChildren ∷ Ok (Numbered 4) ∷ Ok Done ∷ Ok Done ∷ []
removals_answers = refl

removals_items : items_of (after_all new_history (device_waits_for_vendor ++ removals)) ≡ []
removals_items = refl

abbrev intel : Reading
intel = Good ((codes "PC/8086", codes "Intel") ∷ [])

abbrev intel_corporation : Reading
intel_corporation = Good ((codes "PC/8086", codes "Intel Corporation") ∷ [])

abbrev imports : List Asked
imports = under (codes "k1") root (Imports intel) ∷ under (codes "k1") root (Imports intel) ∷ by root (Imports intel) ∷ by root (Imports intel_corporation) ∷ under (codes "k1") root (Imports intel) ∷ []

imports_answers : answers new_history imports ≡ Ok (Counts 1 0 0) ∷ Ok (Counts 1 0 0) ∷ Ok (Counts 0 0 1) ∷ Ok (Counts 0 1 0) ∷ Ok (Counts 1 0 0) ∷ []
imports_answers = refl

imports_items : items_of (after_all new_history imports) ≡ (codes "PC/8086", codes "Intel Corporation") ∷ []
imports_items = refl

faulty_import : answers new_history (by root (Imports (Faulty (Line 3 Duplicate))) ∷ []) ≡ Err (FileFault (Line 3 Duplicate)) ∷ []
faulty_import = refl

abbrev policy : List Asked
policy = by root (Ranks alice Contributor) ∷ by root (Submits (Vendor 4332) (Name (codes "Realtek")) []) ∷ by root (Approves 1 Anything) ∷ by alice (Withdraws 1) ∷ by alice (Comments 1 (codes "seen")) ∷ by root (Ranks root Senior) ∷ by root (Ranks alice Contributor)
    ∷ by (codes "carol") (Submits (Vendor 4332) (Name (codes "X")) []) ∷ by root (Approves 2 Anything) ∷ by root (Withdraws 1) ∷ by root (Withdraws 1) ∷ by alice (Withdraws 1) ∷ by alice (Rejects 1 (codes "no")) ∷ []

policy_answers : answers new_history policy ≡ Ok Done ∷ Ok (Numbered 1) ∷ Err OwnDecision ∷ Err NotAuthor ∷ Ok Done ∷ Err OwnDecision ∷ Err NothingToDo ∷ Err NoAccount ∷ Err NoSubmission ∷ Ok Done ∷ Err NotPending ∷ Err NotAuthor ∷ Err NotPending ∷ []
policy_answers = refl

-- THE LIMIT OF THE REVISION

abbrev before_the_limit : List Asked
before_the_limit = by root (Ranks alice Contributor) ∷ by alice (Submits (Vendor 32902) (Name (codes "Intel Corporation")) []) ∷ under (codes "k1") root (Imports intel) ∷ []

-- a registry with these three, where so many were accepted
abbrev at : ℕ → Views
at revision = record (views_of (after_all new_history before_the_limit)) { revision = revision }

abbrev answers_at : ℕ → List Asked → List (Result Reply Refusal)
answers_at revision commands = map (λ c. answer (judge (at revision) c)) commands

abbrev one_of_each : List Asked
one_of_each = by root (Ranks bob Moderator) ∷ by alice (Submits (Vendor 32902) Removal []) ∷ by root (Comments 1 (codes "seen")) ∷ by alice (Withdraws 1) ∷ by root (Approves 1 Anything) ∷ by root (Rejects 1 (codes "no")) ∷ by root (Imports intel) ∷ []

one_below_the_limit : answers_at 8999999999999999999 one_of_each ≡ Ok Done ∷ Ok (Numbered 2) ∷ Ok Done ∷ Ok Done ∷ Ok Done ∷ Ok Done ∷ Ok (Counts 0 0 1) ∷ []
one_below_the_limit = refl

at_the_limit : answers_at most_revision one_of_each ≡ Err Full ∷ Err Full ∷ Err Full ∷ Err Full ∷ Err Full ∷ Err Full ∷ Err Full ∷ []
at_the_limit = refl

-- a kept reply is answered there, and what fails another check is told by that
kept_at_the_limit : answers_at most_revision (under (codes "k1") root (Imports intel) ∷ by alice (Approves 1 Anything) ∷ by root (Approves 2 Anything) ∷ by (codes "carol") (Withdraws 1) ∷ []) ≡ Ok (Counts 1 0 0) ∷ Err RankTooLow ∷ Err NoSubmission ∷ Err NoAccount ∷ []
kept_at_the_limit = refl

-- LISTS

-- four submissions, three of them by alice and two for each path, of which the first has a remark and was approved
abbrev listed : List Asked
listed = by root (Ranks alice Contributor) ∷ by alice (Submits (Vendor 32902) (Name (codes "Intel")) []) ∷ by root (Submits (Vendor 4332) (Name (codes "Realtek")) []) ∷ by alice (Submits (Vendor 32902) Removal (codes "gone")) ∷ by root (Comments 1 (codes "seen")) ∷ by alice (Submits (Vendor 4332) (Name (codes "R")) []) ∷ by root (Approves 1 Anything) ∷ []

abbrev listed_views : Views
listed_views = views_of (after_all new_history listed)

abbrev any_before : ℕ → Search
any_before before = record { path = None; author = None; before = before }

abbrev of_alice_before : ℕ → Search
of_alice_before before = record { path = None; author = Some alice; before = before }

abbrev of_intel_before : ℕ → Search
of_intel_before before = record { path = Some (Vendor 32902); author = None; before = before }

-- of a page of at most two, out of at most three that were looked at: where the next begins, and the numbers on it
abbrev numbers_on : Search → ℕ × List ℕ
numbers_on search = ((submissions_of 2 3 search listed_views).before, map (λ (l : Listing). l.number) (submissions_of 2 3 search listed_views).submissions)

latest_submissions : numbers_on (any_before 0) ≡ (3, 4 ∷ 3 ∷ [])
latest_submissions = refl

-- the last one listed is the first of all, so that no page is left
earlier_submissions : numbers_on (any_before 3) ≡ (0, 2 ∷ 1 ∷ [])
earlier_submissions = refl

none_before_the_first : numbers_on (any_before 1) ≡ (0, [])
none_before_the_first = refl

latest_of_alice : numbers_on (of_alice_before 0) ≡ (3, 4 ∷ 3 ∷ [])
latest_of_alice = refl

earlier_of_alice : (submissions_of 2 3 (of_alice_before 3) listed_views) ≡ record { before = 0; submissions = record { number = 1; standing = record { submitted = record { author = alice; path = Vendor 32902; proposal = Name (codes "Intel"); note = [] }; state = Approved root }; remarks = 1 } ∷ [] }
earlier_of_alice = refl

-- a page that is not full goes on below the last one that was looked at
latest_of_intel : numbers_on (of_intel_before 0) ≡ (2, 3 ∷ [])
latest_of_intel = refl

earlier_of_intel : numbers_on (of_intel_before 2) ≡ (0, 1 ∷ [])
earlier_of_intel = refl

queue : queue_in 1 2 listed_views ≡ record { number = 3; standing = record { submitted = record { author = alice; path = Vendor 32902; proposal = Removal; note = codes "gone" }; state = Pending }; now = Some (codes "Intel"); remarks = 0 } ∷ []
queue = refl

queue_of_a_new_registry : queue_in 2 0 (views_of new_history) ≡ []
queue_of_a_new_registry = refl

abbrev of_alice : List ℕ → Remark
of_alice text = record { author = alice; text = text }

abbrev three_remarks : List Remark
three_remarks = of_alice (codes "a") ∷ of_alice (codes "b") ∷ of_alice (codes "c") ∷ []

first_remarks : take 2 (placed_after 0 three_remarks) ≡ (1, of_alice (codes "a")) ∷ (2, of_alice (codes "b")) ∷ []
first_remarks = refl

last_remark : take 2 (placed_after 2 three_remarks) ≡ (3, of_alice (codes "c")) ∷ []
last_remark = refl

no_remark_after_the_last : take 2 (placed_after 3 three_remarks) ≡ []
no_remark_after_the_last = refl

abbrev with_remarks : List (ℕ × Remark) → DiscussionPage
with_remarks remarks = record { number = 1; standing = record { submitted = record { author = alice; path = Vendor 32902; proposal = Name (codes "Intel"); note = [] }; state = Approved root }; count = 1; remarks = remarks }

-- the submission is shown whatever place is asked for
remarks : remark_page_in 2 1 0 listed_views ≡ Some (with_remarks ((1, record { author = root; text = codes "seen" }) ∷ []))
remarks = refl

later_remarks : remark_page_in 2 1 7 listed_views ≡ Some (with_remarks [])
later_remarks = refl

remarks_on_no_submission : remark_page_in 2 9 0 listed_views ≡ None
remarks_on_no_submission = refl

status : status_of_registry (after_all new_history listed) ≡ record { accounts = 2; items = 1; pending = 3; revision = 7; submissions = 4 }
status = refl

status_of_a_new_registry : status_of_registry new_history ≡ record { accounts = 1; items = 0; pending = 0; revision = 0; submissions = 0 }
status_of_a_new_registry = refl
