-- Submissions that are sought among some numbers.
use Rattle.std.specs.Prelude.{◌≡◌, ℕ, ◌||◌, ◌==◌, nat_lt, List, Option, filter, map, reverse}
use Rattle.std.specs.List.Sorted.{IsNonDecreasing}
use Rattle.pid_file.specs.declared.path.Path.{Path}
use Rattle.pid_moderation.specs.SubmissionPages.{Search, Listing, all_listings, is_sought}
use Rattle.pid_moderation.specs.SubmissionPages.{listing_in, sought_in}
use Rattle.pid_moderation.specs.Views.{Views}
use Rattle.pid_tables.specs.Lists.ByNumber.{standings_at}

-- with no bound
abbrev pub search_for : Option Path → Option (List ℕ) → Search
search_for path author = record { path = path; author = author; before = 0 }

-- those of the submissions with these numbers that are for the path and of the author, in the order
-- of the numbers
abbrev pub found_among : Option Path → Option (List ℕ) → List ℕ → Views → List Listing
found_among path author numbers v = filter (is_sought (search_for path author))
    (map (listing_in v) (standings_at numbers v))

-- no number is left out of these, which rise, whose submission is sought
abbrev pub LeavesOutNone : Search → List ℕ → Views → Type 0
LeavesOutNone search numbers v =
    found_among search.path search.author (reverse numbers) v ≡ sought_in search v

-- those below a number, of which 0 stands for no bound
abbrev pub are_below : ℕ → List ℕ → List ℕ
are_below before numbers = filter (λ n. before == 0 || nat_lt n before) numbers

-- they rise, and leave out no submission for the path and of the author
pub record IsServing (path : Option Path) (author : Option (List ℕ)) (numbers : List ℕ) (v : Views)
    : Type 0 where
  pub rising : IsNonDecreasing numbers
  pub whole : found_among path author (reverse numbers) v
      ≡ filter (is_sought (search_for path author)) (all_listings v)
