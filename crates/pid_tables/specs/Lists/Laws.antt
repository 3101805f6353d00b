-- Laws of pages: each is the contract of a public function that does nothing.
use Rattle.std.specs.Prelude.{◌≡◌, ℕ, ◌*◌, ◌≤◌, ◌==◌, true, if◌then◌else◌, List, [], ◌++◌}
use Rattle.std.specs.Prelude.{length, take, drop}
use Rattle.std.specs.FinMap.Entries.{is_sorted}
use Rattle.pid_ident.specs.Trees.{text_cmp}
use Rattle.pid_moderation.specs.Views.{Views}
use Rattle.pid_moderation.specs.Submissions.{Standing}
use Rattle.pid_moderation.specs.ChangePages.{Changed, changes_in, changed_after}
use Rattle.pid_moderation.specs.SubmissionPages.{Search, Listing, sought_in, submissions_of}
use Rattle.pid_tables.specs.Lists.Pages.{last_of, pages_after, pages_down}
use Rattle.pid_moderation.specs.PendingPages.{pending_in, pending_above}

-- what a page of pending submissions goes on from
abbrev pub pending_number : ℕ × Standing → ℕ
pending_number s = s.0

-- what a page of changes goes on from
abbrev pub changed_path : Changed → List ℕ
changed_path item = item.path

-- what waits after the last number of a page is all that the page left out, so that the next page
-- begins with it
abbrev pub PendingGoOn : Type 0
PendingGoOn = (most after : ℕ) (v : Views)
    → pending_above (last_of pending_number after (pending_in most after v)) v
    ≡ drop most (pending_above after v)

-- pages one after the other are the first of all that wait: each once, in order
abbrev pub PendingPagesJoin : Type 0
PendingPagesJoin = (most count after : ℕ) (v : Views)
    → pages_after pending_number (λ behind. pending_in most behind v) count after
    ≡ take (count * most) (pending_above after v)

-- so many pages as have room for them are all of them
abbrev pub PendingPagesAreAll : Type 0
PendingPagesAreAll = (most count after : ℕ) (v : Views)
    → length (pending_above after v) ≤ count * most
    → pages_after pending_number (λ behind. pending_in most behind v) count after
    ≡ pending_above after v

-- what was changed and comes after the last path of a page is all that the page left out
abbrev pub ChangesGoOn : Type 0
ChangesGoOn = (most since : ℕ) (after : List ℕ) (v : Views) → is_sorted text_cmp v.items ≡ true
    → changed_after since (last_of changed_path after (changes_in most since after v).items) v
    ≡ drop most (changed_after since after v)

abbrev pub ChangePagesJoin : Type 0
ChangePagesJoin = (most since count : ℕ) (after : List ℕ) (v : Views)
    → is_sorted text_cmp v.items ≡ true
    → pages_after changed_path (λ behind. (changes_in most since behind v).items) count after
    ≡ take (count * most) (changed_after since after v)

abbrev pub ChangePagesAreAll : Type 0
ChangePagesAreAll = (most since count : ℕ) (after : List ℕ) (v : Views)
    → is_sorted text_cmp v.items ≡ true → length (changed_after since after v) ≤ count * most
    → pages_after changed_path (λ behind. (changes_in most since behind v).items) count after
    ≡ changed_after since after v

-- the same search below another number
abbrev pub search_below : Search → ℕ → Search
search_below search before = record search { before = before }

-- what is sought below the number that a page names: nothing if it names 0
abbrev pub what_is_left : ℕ → Search → Views → List Listing
what_is_left next search v = if next == 0 then [] else sought_in (search_below search next) v

-- a page, and what is sought below the number that it names, are all that is sought
abbrev pub SubmissionsGoOn : Type 0
SubmissionsGoOn = (most searched : ℕ) (search : Search) (v : Views) → 1 ≤ most → 1 ≤ searched
    → sought_in search v ≡ (submissions_of most searched search v).submissions
    ++ what_is_left (submissions_of most searched search v).before search v

-- so many pages as there are submissions list all that is sought, each once
abbrev pub SubmissionPagesAreAll : Type 0
SubmissionPagesAreAll = (most searched count : ℕ) (search : Search) (v : Views)
    → 1 ≤ most → 1 ≤ searched → length v.submits ≤ count
    → pages_down (λ before. submissions_of most searched (search_below search before) v) count
    search.before ≡ sought_in search v
