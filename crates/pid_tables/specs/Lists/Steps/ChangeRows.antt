-- What a query of changes answers.
use Rattle.std.specs.Prelude.{◌≡◌, ℕ, min, List, [], ◌∷◌, Some, map}
use Rattle.std.specs.List.{AllByRecursion}
use Rattle.sqlite.specs.declared.types.Value.TheVariants.{Text}
use Rattle.sqlite.specs.Order.{Row}
use Rattle.pid_moderation.specs.Items.{name_at}
use Rattle.pid_moderation.specs.Views.{Views}
use Rattle.pid_tables.specs.Rows.TableRows.{number}
use Rattle.pid_moderation.specs.ChangePages.{Changed}

-- the path of an item and the number of the last change of its name
abbrev pub since_shown : Changed → Row
since_shown item = Text item.path ∷ number item.since ∷ []

-- each of them has its name in the views
abbrev pub AreNamed : Views → List Changed → Type 0
AreNamed v all = AllByRecursion (λ (item : Changed). name_at item.path v.items ≡ Some item.name) all

-- they have their names in the views, and these are their rows
abbrev pub AreChangesIn : Views → List Changed → List Row → Type 0
AreChangesIn v all rows = AreNamed v all × (rows ≡ map since_shown all)

-- the same of one
abbrev pub IsChangeIn : Views → Changed → Row → Type 0
IsChangeIn v item row = (name_at item.path v.items ≡ Some item.name) × (row ≡ since_shown item)

-- a number as a query asks for it: in place of greater ones the greatest that SQLite holds
abbrev pub held : ℕ → ℕ
held number = min number 9223372036854775807
