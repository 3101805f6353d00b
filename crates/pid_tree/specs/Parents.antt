-- The parent and the children of a path in a tree. That a tree holds the parent of each of its
-- paths is a choice of this project, after the nesting of lines in pci.ids(5).
use Rattle.std.specs.Prelude.{◌≡◌, Some, IsSome, IsNone, IsSomeAnd}
use Rattle.std.specs.FinMap.{get}
use Rattle.pid_file.specs.declared.path.Path.{Path}
use Rattle.pid_file.specs.PathTexts.{IsPath, path_text, parent_of}
use Rattle.pid_file.specs.Trees.{TreeMap}

-- the path has a parent, and the tree does not hold it
abbrev pub LacksParent : TreeMap → Path → Type 0
LacksParent t path = IsSomeAnd (parent_of path) (λ parent. IsNone (get t (path_text parent)))

-- the tree holds a path whose parent is this one
pub record HasChild (t : TreeMap) (path : Path) : Type 0 where
  pub child : Path
  pub in_range : IsPath child
  pub is_child : parent_of child ≡ Some path
  pub there : IsSome (get t (path_text child))
