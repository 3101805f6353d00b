-- What a tree does with an entry.
use Rattle.std.specs.Prelude.{◌≡◌, reverse}
use Rattle.std.specs.FinMap.{insert}
use Rattle.pid_file.specs.Trees.{TreeMap}
use Rattle.pid_file.specs.Items.{tree_of}
use Rattle.pid_file.specs.declared.tree_sink.TreeSink.{TreeSink}
use Rattle.pid_file.specs.Numbered.{Numbered, item_in}

-- the tree of the items that the sink keeps, the last one first
abbrev pub tree_so_far : TreeSink → TreeMap
tree_so_far s = tree_of (reverse s.items.items)

-- one more item of the tree
abbrev pub SetsItem : TreeSink → Numbered → TreeSink → Type 0
SetsItem s entry t = tree_so_far t ≡ insert (tree_so_far s) (item_in entry).0 (item_in entry).1
