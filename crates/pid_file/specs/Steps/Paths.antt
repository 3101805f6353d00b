-- The order of paths.
use Rattle.std.specs.Ordering.{on, nat_cmp}
use Rattle.std.specs.Cmp.Lexicographic.{slice_cmp}
use Rattle.std.specs.declared.cmp.Ordering.{Ordering}
use Rattle.pid_file.specs.declared.path.Path.{Path}
use Rattle.pid_file.specs.PathTexts.{path_text}

-- the bytewise order of the texts
abbrev pub path_cmp : Path → Path → Ordering
path_cmp = on path_text (slice_cmp nat_cmp)
