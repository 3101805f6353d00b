-- The items that were seen: a run that rises, and the rest; and the keys of paths among them.
use Rattle.std.specs.Prelude.{ℕ, Bool, List, ◌++◌}
use Rattle.std.specs.List.{list_any}
use Rattle.std.specs.List.Sorted.{IsSorted}
use Rattle.std.specs.declared.cmp.Ordering.{Ordering}
use Rattle.std.specs.Ordering.{is_eq, nat_cmp}
use Rattle.pid_file.specs.declared.path.Path.{Path}
use Rattle.pid_file.specs.Steps.PathPlaces.{path_key}
use Rattle.pid_file.specs.declared.seen.Seen.{Seen}

-- whether an item is among those that were seen, in an order
abbrev pub has_item : {P : Type 0} → (P → P → Ordering) → List P → P → Bool
has_item cmp seen p = list_any (λ k. is_eq (cmp p k)) seen

-- whether the key of a path is among those that were seen
abbrev pub has_path : List ℕ → Path → Bool
has_path seen p = has_item nat_cmp seen (path_key p)

-- the run and then the rest
abbrev pub seen_items : Seen → List ℕ
seen_items s = s.run.items ++ s.rest.keys

-- none is less than the one before it
abbrev pub IsRising : {P : Type 0} → (P → P → Ordering) → List P → Type 0
IsRising cmp run = IsSorted cmp run
