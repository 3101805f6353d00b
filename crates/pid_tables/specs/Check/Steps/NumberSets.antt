-- The numbers of submissions.
use Rattle.std.specs.Prelude.{◌≡◌, ◌⊎◌, ◌↔◌, ◌≤◌, ℕ, true, List, length}
use Rattle.std.specs.Ordering.{nat_cmp}
use Rattle.std.specs.BTreeSet.{contains}
use Rattle.sqlite.specs.Order.{Row}
use Rattle.pid_tables.specs.Rows.TableRows.{number}
use Rattle.pid_tables.specs.declared.check.numbers.Numbers.{Numbers}
use Rattle.pid_tables.specs.Check.Conditions.{HasValue}

-- it is one of those that came in turn, or of the others
abbrev pub HasNumber : Numbers → ℕ → Type 0
HasNumber numbers n = ((1 ≤ n) × (n ≤ numbers.turn)) ⊎ (contains nat_cmp numbers.others n ≡ true)

-- these are exactly the numbers of the rows
abbrev pub AreNumbersOf : Numbers → List Row → Type 0
AreNumbersOf numbers rows = (n : ℕ) → HasNumber numbers n ↔ HasValue rows 0 (number n)

-- each number up to the count of the rows is there
abbrev pub CountFromOne : List Row → Type 0
CountFromOne rows = (n : ℕ) → 1 ≤ n → n ≤ length rows → HasValue rows 0 (number n)
