-- What a search for children within a part of a tree finds.
use Rattle.std.specs.Prelude.{◌≡◌, Bool, false, Some, IsNone, IsTrue}
use Rattle.std.specs.FinMap.{get}
use Rattle.std.specs.BTreeMap.Range.{IsInRange}
use Rattle.std.specs.declared.ops.Bound.TheVariants.{Included}
use Rattle.pid_file.specs.declared.path.Path.{Path}
use Rattle.pid_file.specs.PathTexts.{IsPath, path_text, parent_of}
use Rattle.pid_file.specs.Steps.Paths.{path_cmp}
use Rattle.pid_file.specs.Trees.{TreeMap}
use Rattle.pid_tree.specs.Parents.{HasChild}

-- the tree holds no child of the path that lies between these two paths, both included
abbrev pub HasNoneBetween : TreeMap → Path → Path → Path → Type 0
HasNoneBetween t path least greatest =
    (child : Path) → IsPath child → parent_of child ≡ Some path
    → IsInRange path_cmp (Included least) (Included greatest) child
    → IsNone (get t (path_text child))

-- whether one was found there
pub record FindsChild (t : TreeMap) (path least greatest : Path) (answer : Bool) : Type 0 where
  pub found : IsTrue answer → HasChild t path
  pub none : answer ≡ false → HasNoneBetween t path least greatest
