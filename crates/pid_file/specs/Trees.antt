-- A tree: a finite map from the texts of paths to names, in the bytewise order of the texts.
use Rattle.std.specs.Prelude.{ℕ, List, IsTrue, IsSome, IfSome}
use Rattle.std.specs.declared.cmp.Ordering.{Ordering}
use Rattle.std.specs.Ordering.{nat_cmp}
use Rattle.std.specs.Cmp.Lexicographic.{slice_cmp}
use Rattle.std.specs.FinMap.{FinMap, get}
use Rattle.pid_file.specs.declared.path.Path.{Path}
use Rattle.pid_file.specs.PathTexts.{IsPath, IsTextOf, path_text, parent_of}
use Rattle.pid_file.specs.Words.{is_name}

abbrev pub text_cmp : List ℕ → List ℕ → Ordering
text_cmp = slice_cmp nat_cmp

abbrev pub TreeMap : Type 0
TreeMap = FinMap text_cmp (List ℕ)

-- each key is the text of a path whose parent is there too, and each value is a name
pub record IsTree (t : TreeMap) : Type 0 where
  pub paths : (k : List ℕ) → IsSome (get t k) → (p : Path) × IsTextOf k p
  pub parents : (p : Path) → IsPath p → IsSome (get t (path_text p))
      → IfSome (parent_of p) (λ q. IsSome (get t (path_text q)))
  pub names : (k : List ℕ) → IfSome (get t k) (λ name. IsTrue (is_name name))
