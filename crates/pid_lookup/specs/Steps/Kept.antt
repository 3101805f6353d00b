-- The names that are kept.
use Rattle.pid_file.specs.Trees.{TreeMap}
use Rattle.pid_file.specs.Items.{tree_of}
use Rattle.pid_lookup.specs.declared.asked_names.AskedNames.{AskedNames}

-- the map of the names that are kept
abbrev pub kept_map : AskedNames → TreeMap
kept_map names = tree_of names.kept.entries
