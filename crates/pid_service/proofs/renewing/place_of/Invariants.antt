use Rattle.std.proofs.Common.{◌≡◌, ℕ, ◌+◌, ◌≤◌, List, [], map, take}
use Rattle.std.specs.List.{AllByRecursion}
use Rattle.std.specs.declared.cmp.Ordering.TheVariants.{Greater}
use Rattle.pid_file.specs.PathTexts.{path_text}
use Rattle.pid_file.specs.Trees.{text_cmp}
use Rattle.pid_service.proofs.Words.{bytes_in, extent_in, last_extent, text_or_none}
use Rattle.pid_service.proofs.renewing.place_of.Given as goal

abbrev pub invariant-loop-index : goal.invariant-loop-index
invariant-loop-index l = record {
  few : l.start ≤ 16777216;
  start : l.start ≡ 18 + bytes_in (take l.index (map extent_in l.extents));
  before : text_or_none l.before ≡ last_extent [] (take l.index (map extent_in l.extents));
  below : AllByRecursion (λ (e : List ℕ × ℕ). text_cmp (path_text l.path) e.0 ≡ Greater) (take l.index (map extent_in l.extents));
}
