-- What a query of submissions asks, and what it answers.
use Rattle.std.specs.Prelude.{◌≡◌, ℕ, ◌-◌, ◌<◌, ◌^◌, Bool, false, ◌&&◌, ◌||◌, ◌==◌, nat_lt, nat_le}
use Rattle.std.specs.Prelude.{List, [], ◌∷◌}
use Rattle.std.specs.Prelude.{if◌then◌else◌, map, reverse, filter, take, length, Option, Some, None}
use Rattle.std.specs.List.{AllByRecursion}
use Rattle.std.specs.Str.{bytes_eq}
use Rattle.sqlite.specs.Order.{Row}
use Rattle.pid_ident.specs.PathTexts.{path_text}
use Rattle.pid_moderation.specs.PendingPages.{standings_from}
use Rattle.pid_moderation.specs.SubmissionPages.{Listing, last_number, listing_in, unless_first}
use Rattle.pid_moderation.specs.Submissions.{Standing}
use Rattle.pid_moderation.specs.Views.{Views}
use Rattle.pid_tables.specs.Rows.Causes.{IsReadable}
use Rattle.pid_tables.specs.Rows.Steps.Answers.{value_row}
use Rattle.pid_tables.specs.Lists.ByNumber.{standings_at}

-- the submissions whose numbers are above one and up to another, for a path by its text, of an
-- author; the empty text stands for every path and every author
pub record WantedRows : Type 0 where
  pub low : ℕ
  pub last : ℕ
  pub path : List ℕ
  pub author : List ℕ

-- the text is the one asked for, or any is
abbrev pub is_any_or : List ℕ → List ℕ → Bool
is_any_or asked text = bytes_eq asked [] || bytes_eq text asked

abbrev pub is_asked : WantedRows → ℕ × Standing → Bool
is_asked asked s = nat_lt asked.low s.0 && (nat_le s.0 asked.last
    && (is_any_or asked.path (path_text s.1.submitted.path)
    && is_any_or asked.author s.1.submitted.author))

-- those that are asked for, the latest first, at most so many
abbrev pub latest_asked : ℕ → WantedRows → Views → List (ℕ × Standing)
latest_asked most asked v =
    take most (reverse (filter (is_asked asked) (standings_from 1 v.submits v.state)))

abbrev pub numbers_among : List (ℕ × Standing) → List ℕ
numbers_among all = map (λ (s : ℕ × Standing). s.0) all

-- the row has the number of this listing, or of no submission; where the views can be read, it fits
-- 32 bits
pub record IsListedIn (v : Views) (listed : List Listing) (row : Row) : Type 0 where
  pub number : ℕ
  pub shown : row ≡ value_row number
  pub fits : IsReadable v → number < 2 ^ 32
  pub is : listed ≡ map (listing_in v) (standings_at (number ∷ []) v)

-- the same of several
pub record AreListedIn (v : Views) (listed : List Listing) (rows : List Row) : Type 0 where
  pub numbers : List ℕ
  pub shown : rows ≡ map value_row numbers
  pub fit : IsReadable v → AllByRecursion (λ (n : ℕ). n < 2 ^ 32) numbers
  pub are : listed ≡ map (listing_in v) (standings_at numbers v)

-- the greatest number of so many that is below this one, where 0 stands for no bound
abbrev pub last_before : ℕ → ℕ → ℕ
last_before count before =
    if before == 0 || nat_lt count before then count else before - 1

-- the text stands for what is wanted: the empty one, and no other, for anything
abbrev pub StandsFor : Option (List ℕ) → List ℕ → Type 0
StandsFor None text = text ≡ []
StandsFor (Some wanted) text = (text ≡ wanted) × (bytes_eq wanted [] ≡ false)

-- the number of the last one of a full page, or else the least that was looked at
abbrev pub end_number : ℕ → List Listing → ℕ → ℕ
end_number most listed lowest = if length listed == most then last_number 0 listed else lowest

-- where the page after one begins that looked down to this number
abbrev pub next_after : ℕ → List Listing → ℕ → ℕ
next_after most listed lowest = unless_first (end_number most listed lowest)
