-- Whether the items of a map make a tree, found item by item.
use Rattle.std.specs.Prelude.{ℕ, List, [], ◌∷◌, Option, IsSome, IfSome, IfNone, IsSomeAnd, IsTrue}
use Rattle.std.specs.Ordering.{is_eq}
use Rattle.std.specs.Map.{lookup}
use Rattle.pid_file.specs.declared.path.Path.{Path}
use Rattle.pid_file.specs.PathTexts.{IsPath, parent_of}
use Rattle.pid_file.specs.Steps.Paths.{path_cmp}
use Rattle.pid_file.specs.Words.{is_name}
use Rattle.pid_file.specs.declared.whole.Above.{Above}

-- the list has an item at the path
abbrev pub HasItem : List (Path × List ℕ) → Path → Type 0
HasItem es q = IsSome (lookup (λ k. is_eq (path_cmp q k)) es)

-- the paths that are kept are paths of the list
pub record AreIn (es : List (Path × List ℕ)) (a : Above) : Type 0 where
  pub head : IfSome a.head (HasItem es)
  pub below : IfSome a.below (HasItem es)

-- the parent of a path of the list, if it has one, is there too, and what is kept after it; or it is
-- not there
pub record LooksAt (es : List (Path × List ℕ)) (path : Path) (next : Option Above) : Type 0 where
  pub in_range : IsPath path
  pub kept : IfSome next (AreIn es)
  pub parent : IfSome next (λ _. IfSome (parent_of path) (HasItem es))
  pub lacking : IfNone next (IsSomeAnd (parent_of path) (λ q. HasItem es q → ⊥))

-- an item whose path is in range, whose name keeps the rule of names, and whose parent is in the
-- list
pub record IsSound (es : List (Path × List ℕ)) (path : Path) (name : List ℕ) : Type 0 where
  pub in_range : IsPath path
  pub named : IsTrue (is_name name)
  pub parent : IfSome (parent_of path) (HasItem es)

abbrev pub AreSound : List (Path × List ℕ) → List (Path × List ℕ) → Type 0
AreSound es [] = Unit {0}
AreSound es (x ∷ xs) = IsSound es x.0 x.1 × AreSound es xs
