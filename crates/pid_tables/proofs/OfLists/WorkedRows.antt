-- Worked rows, by computation.
use Rattle.std.proofs.Common.{◌≡◌, List, [], ◌∷◌, map, None, Some, Ok, Err, codes, refl, ℕ, cond}
use Rattle.std.specs.Prelude.{◌==◌, if◌then◌else◌}
use Rattle.std.specs.Str.{bytes_eq}
use Rattle.pid_file.specs.declared.path.Path.TheVariants.{Vendor, Device}
use Rattle.pid_moderation.specs.declared.command.Proposal.TheVariants.{Removal}
use Rattle.pid_moderation.specs.declared.facts.State.TheVariants.{Pending, Withdrawn}
use Rattle.pid_moderation.specs.Items.{Items}
use Rattle.pid_moderation.specs.Views.{Views, Submitted}
use Rattle.pid_reader.specs.LookingBack.{Item}
use Rattle.pid_reader.specs.Numbered.{Numbered}
use Rattle.pid_moderation.specs.Submissions.{Standing, discussion_in}
use Rattle.pid_tables.specs.declared.lists.walk.EachEnd.TheVariants.{Fault}
use Rattle.pid_moderation.specs.ChangePages.{Changed, changes_in, start_text}
use Rattle.pid_moderation.specs.Children.{children_of}
use Rattle.pid_tables.specs.Lists.EachItem.{Walks, placed_from}
use Rattle.pid_moderation.specs.PendingPages.{pending_in}
use Rattle.pid_moderation.specs.SubmissionPages.{Listing, Search, sought_in, submissions_of}
use Rattle.pid_tables.specs.Lists.ByNumber.{standings_at}
use Rattle.pid_tables.specs.Lists.Laws.{search_below, what_is_left}
use Rattle.pid_tables.specs.Lists.Pages.{pages_down}

abbrev intel : Item
intel = (codes "PC/8086", codes "Intel")

abbrev bridge : Item
bridge = (codes "PC/8086/1237", codes "440FX")

abbrev machine : Item
machine = (codes "PC/8086/1237/1af41100", codes "Virtual Machine")

abbrev storage : Item
storage = (codes "PD/01", codes "Mass storage")

abbrev generic : Item
generic = (codes "PS/8086/1100", codes "Board")

abbrev items : Items
items = intel ∷ bridge ∷ machine ∷ storage ∷ generic ∷ []

below_a_vendor : children_of (Some (codes "PC/8086")) items ≡ bridge ∷ generic ∷ []
below_a_vendor = refl

below_a_device : children_of (Some (codes "PC/8086/1237")) items ≡ machine ∷ []
below_a_device = refl

below_an_absent_path : children_of (Some (codes "PC/10ec")) items ≡ []
below_an_absent_path = refl

at_the_top : children_of None items ≡ intel ∷ storage ∷ []
at_the_top = refl

abbrev by_bob : ℕ → Submitted
by_bob vendor = record { author = codes "bob"; path = Vendor vendor; proposal = Removal; note = [] }

-- three submissions, of which the second was withdrawn, and two remarks on the third; two items that were named anew
abbrev views : Views
views = record {
  rank = λ who. None;
  submits = by_bob 1 ∷ by_bob 2 ∷ by_bob 3 ∷ [];
  state = λ n. cond (n == 2) Withdrawn Pending;
  remarks = λ n. cond (n == 3) (record { author = codes "bob"; text = codes "one" } ∷ record { author = codes "root"; text = codes "two" } ∷ []) [];
  items = items;
  kept = λ who key. None;
  revision = 9;
  since = λ path. if bytes_eq path bridge.0 then 4 else if bytes_eq path storage.0 then 9 else 0;
}

abbrev waiting : ℕ → ℕ × Standing
waiting n = (n, record { submitted = by_bob n; state = Pending })

from_the_first : pending_in 100 0 views ≡ waiting 1 ∷ waiting 3 ∷ []
from_the_first = refl

a_page_of_one : pending_in 1 0 views ≡ waiting 1 ∷ []
a_page_of_one = refl

after_the_first : pending_in 100 1 views ≡ waiting 3 ∷ []
after_the_first = refl

after_the_last : pending_in 100 3 views ≡ []
after_the_last = refl

-- one that was decided is read too, and a number that no submission has is passed over
read_by_numbers : standings_at (3 ∷ 9 ∷ 2 ∷ []) views ≡ waiting 3 ∷ (2, record { submitted = by_bob 2; state = Withdrawn }) ∷ []
read_by_numbers = refl

read_by_no_number : standings_at [] views ≡ []
read_by_no_number = refl

abbrev all_of_bob : Search
all_of_bob = record { path = None; author = Some (codes "bob"); before = 0 }

-- pages of two are two pages
all_pages : map (λ (l : Listing). l.number) (pages_down (λ before. submissions_of 2 10 (search_below all_of_bob before) views) 3 0) ≡ 3 ∷ 2 ∷ 1 ∷ []
all_pages = refl

-- a page that looks at one alone goes on below it, though nothing is listed
nothing_at_the_first : what_is_left (submissions_of 2 1 (record { path = Some (Vendor 2); author = None; before = 0 }) views).before all_of_bob views ≡ sought_in (record { path = None; author = Some (codes "bob"); before = 3 }) views
nothing_at_the_first = refl

remarks_in_order : discussion_in views 3 ≡ Some (record { submitted = by_bob 3; state = Pending }, record { author = codes "bob"; text = codes "one" } ∷ record { author = codes "root"; text = codes "two" } ∷ [])
remarks_in_order = refl

withdrawn_without_remarks : discussion_in views 2 ≡ Some (record { submitted = by_bob 2; state = Withdrawn }, [])
withdrawn_without_remarks = refl

no_submission : discussion_in views 4 ≡ None
no_submission = refl

changed_bridge : Changed
changed_bridge = record { path = bridge.0; name = bridge.1; since = 4 }

changed_storage : Changed
changed_storage = record { path = storage.0; name = storage.1; since = 9 }

-- items that were there before the mark have the number 0, and are told of none
all_changes : changes_in 100 0 (start_text None) views ≡ record { revision = 9; items = changed_bridge ∷ changed_storage ∷ [] }
unfolding changed_bridge changed_storage
all_changes = refl

later_changes : changes_in 100 4 (start_text None) views ≡ record { revision = 9; items = changed_storage ∷ [] }
unfolding changed_storage
later_changes = refl

one_change : changes_in 1 0 (start_text None) views ≡ record { revision = 9; items = changed_bridge ∷ [] }
unfolding changed_bridge
one_change = refl

-- a page begins behind a path, whether an item is there or not
changes_after : changes_in 100 0 (start_text (Some (Device 32902 4663))) views ≡ record { revision = 9; items = changed_storage ∷ [] }
unfolding changed_storage
changes_after = refl

changes_after_no_item : changes_in 100 0 (start_text (Some (Device 32902 4662))) views ≡ record { revision = 9; items = changed_bridge ∷ changed_storage ∷ [] }
unfolding changed_bridge changed_storage
changes_after_no_item = refl

no_changes : changes_in 100 9 (start_text None) views ≡ record { revision = 9; items = [] }
no_changes = refl

-- a sink that writes items down with their places, the last in front, and faults at a path's text
abbrev Writes : List Numbered → Numbered → List Numbered → Type 0
Writes before item after = after ≡ item ∷ before

abbrev Refuses : List Numbered → Numbered → ℕ → List Numbered → Type 0
Refuses before item fault after = after ≡ before

whole_walk : Walks {S = List Numbered} {F = ℕ} Writes Refuses {X = Unit {0}} (Ok tt) (placed_from 1 (intel ∷ bridge ∷ [])) [] ((2, bridge) ∷ (1, intel) ∷ [])
whole_walk = ((1, intel) ∷ [], ([], refl, refl), refl)

refused_at_the_second : Walks {S = List Numbered} {F = ℕ} Writes Refuses {X = Unit {0}} (Err (Fault 7)) (placed_from 1 (intel ∷ bridge ∷ storage ∷ [])) [] ((1, intel) ∷ [])
refused_at_the_second = record { front = (1, intel) ∷ []; item = (2, bridge); rest = (3, storage) ∷ []; parts = refl; between = (1, intel) ∷ []; took = ([], refl, refl); faulted = refl }
