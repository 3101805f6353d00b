use Rattle.std.proofs.Common.{◌≡◌, ◌+◌, ◌≤◌, [], map, take}
use Rattle.std.specs.Prelude.{option_map}
use Rattle.pid_file.specs.PathTexts.{path_text}
use Rattle.pid_service.proofs.Words.{bytes_in, children_of, extent_in, IsKeptText, Items, last_extent, pair_of, text_or_none}
use Rattle.pid_service.proofs.kept_children.children_in.Given as goal

abbrev pub invariant-loop-extent : goal.invariant-loop-extent
invariant-loop-extent l = record {
  few : l.start ≤ 16777216;
  start : l.start ≡ 18 + bytes_in (take l.extent-index (map extent_in l.extents));
  before : text_or_none l.before ≡ last_extent [] (take l.extent-index (map extent_in l.extents));
  found : (items : Items) → IsKeptText l.text items → map pair_of l.found.items ≡ children_of (option_map path_text l.above) (take l.extent-index items);
}
