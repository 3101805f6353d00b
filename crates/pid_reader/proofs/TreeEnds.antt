-- The tree of a text that is refused nowhere lacks no parent.
use Rattle.std.proofs.Common.{◌≡◌, ℕ, List, refl}
use Rattle.pid_file.specs.Trees.{IsTree}
use Rattle.pid_file.specs.declared.tree_sink.TreeSink.{TreeSink}
use Rattle.pid_file.specs.declared.tree_sink.TreeFault.{TreeFault}
use Rattle.pid_file.specs.declared.tree_sink.TreeFault.TheVariants.{ParentMissing, Memory}
use Rattle.pid_file.specs.declared.sink.CutEnd.TheVariants.{Fault}
use Rattle.pid_file.specs.Reading.{Reads, refused}
use Rattle.pid_file.specs.TreeSinks.{tree_so_far}
use Rattle.pid_reader.specs.Steps.Feeders.{IsTreeEnd}
use Rattle.pid_reader.proofs.ReadTrees.{reads_tree}

pub never_missing : (fault : TreeFault) (sink : TreeSink) (text : List ℕ) → Reads text (tree_so_far sink) → (fault ≡ ParentMissing → IsTree (tree_so_far sink) → ⊥) → IsTreeEnd (Fault fault) (refused text)
never_missing ParentMissing sink text reads lacks = lacks refl (reads_tree text (tree_so_far sink) reads)
never_missing Memory sink text reads lacks = tt
