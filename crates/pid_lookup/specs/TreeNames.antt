-- What a holder over a lent tree shows.
use Rattle.pid_file.specs.Trees.{TreeMap}
use Rattle.pid_lookup.specs.declared.tree_names.TreeNames.{TreeNames}

-- the map of the tree
abbrev pub tree_shown : TreeNames → TreeMap
tree_shown names = names.tree.now
