-- Steps of SeenPaths and SeenItems.
use Rattle.std.specs.Prelude.{◌≡◌, true, List, if◌then◌else◌, not, Result, IfOk, IsTrue}
use Rattle.std.specs.declared.cmp.Ordering.{Ordering}
use Rattle.std.specs.Ordering.{is_eq}
use Rattle.pid_file.specs.SeenItems.{has_item}
use Rattle.std.specs.Prelude.{Bool, false, ◌&&◌}
use Rattle.pid_file.specs.declared.path.Path.{Path}
use Rattle.pid_file.specs.declared.path.Path.TheVariants.{Vendor, Device, Subsystem, Class, Subclass, ProgIf, Generic}
use Rattle.pid_file.specs.Steps.Paths.{path_cmp}
use Rattle.pid_file.specs.PathTexts.{IsPath}
use Rattle.pid_file.specs.SeenPaths.{AreRising, has_seen, is_nested}
use Rattle.pid_file.specs.declared.seen_paths.SeenPaths.{SeenPaths}

-- the items with one more
abbrev pub IsOneMore : {P : Type 0} → (P → P → Ordering) → List P → P → List P → Type 0
IsOneMore {P} cmp old p new = (q : P) → has_item cmp new q
    ≡ (if is_eq (cmp p q) then true else has_item cmp old q)

-- whether the path is that of a vendor or a class
abbrev pub is_head : Path → Bool
is_head (Vendor v) = true
is_head (Device v d) = false
is_head (Subsystem v d s e) = false
is_head (Class c) = true
is_head (Subclass c s) = false
is_head (ProgIf c s p) = false
is_head (Generic v d) = false

-- what was seen with one more path: a vendor or a class begins a block, and what is below others is
-- forgotten
abbrev pub with_path : (Path → Bool) → Path → Path → Bool
with_path seen p q = if is_head p && is_nested q then false else
    (if is_eq (path_cmp q p) then true else seen q)

-- one more path was seen, or memory ran out; it answers whether it was not seen before
pub record InsertsPath {E : Type 0} (path : Path) (result : Result Bool E) (old new : SeenPaths)
    : Type 0 where
  pub in_range : IsPath path
  pub rising : AreRising old → AreRising new
  pub added : AreRising old → IfOk result (λ added. added ≡ not (has_seen old path))
  pub updates : AreRising old → IfOk result (λ added. IsTrue added → (q : Path) → IsPath q
      → has_seen new q ≡ with_path (has_seen old) path q)
