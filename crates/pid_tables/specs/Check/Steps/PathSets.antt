-- The paths of rows as a set, and what makes a row an item's.
use Rattle.std.specs.Prelude.{◌≡◌, ◌↔◌, ℕ, true, List, [], ◌∷◌, Some}
use Rattle.std.specs.BTreeSet.{BTreeSet, contains}
use Rattle.sqlite.specs.declared.types.Value.TheVariants.{Text}
use Rattle.sqlite.specs.Order.{Row, column}
use Rattle.pid_file.specs.declared.path.Path.{Path}
use Rattle.pid_ident.specs.PathTexts.{IsPath, path_text, parent_of}
use Rattle.pid_file.specs.Steps.Paths.{path_cmp}
use Rattle.pid_ident.specs.Words.{is_name}
use Rattle.pid_tables.specs.Check.Conditions.{HasItemRow}

-- the text of a path is in the first column
abbrev pub HasPath : Row → Type 0
HasPath r = (path : Path) × IsPath path × (column r 0 ≡ Text (path_text path))

-- the text is that of a path in the first column of a row
abbrev pub HasPathText : List Row → List ℕ → Type 0
HasPathText rows text = (path : Path) × IsPath path × (path_text path ≡ text) × HasItemRow rows path

-- the set has exactly the paths of the rows
abbrev pub ArePathsOf : BTreeSet Path → List Row → Type 0
ArePathsOf paths rows = (path : Path) → (contains path_cmp paths path ≡ true)
    ↔ HasPathText rows (path_text path)

-- the parent of the path, if it has one, is in the set
abbrev pub HasParent : BTreeSet Path → Path → Type 0
HasParent paths path = (above : Path) → parent_of path ≡ Some above
    → contains path_cmp paths above ≡ true

-- each path of the set has its parent there
abbrev pub HasEachParent : BTreeSet Path → Type 0
HasEachParent paths = (path : Path) → contains path_cmp paths path ≡ true → IsPath path
    → HasParent paths path

-- an item, whatever its parent
pub record IsItemAlone (r : Row) : Type 0 where
  pub path : Path
  pub name : List ℕ
  pub is : r ≡ Text (path_text path) ∷ Text name ∷ []
  pub in_range : IsPath path
  pub good : is_name name ≡ true
