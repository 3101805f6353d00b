-- Steps of NameSets.
use Rattle.std.specs.Prelude.{◌≡◌, ◌↔◌, ℕ, true, List, IsUtf8, String}
use Rattle.std.specs.BTreeSet.{BTreeSet, contains_text}
use Rattle.std.specs.declared.alloc.Global.{Global}
use Rattle.sqlite.specs.Order.{Row}
use Rattle.pid_tables.specs.Check.Conditions.{HasAccount}

-- the set has exactly the texts in the first column of the rows
abbrev pub AreNamesOf : BTreeSet (String Global) → List Row → Type 0
AreNamesOf names rows = (name : List ℕ) → IsUtf8 name
    → (contains_text names name ≡ true) ↔ HasAccount rows name
