use Rattle.pid_reader.proofs.ReadTrees.{reads_tree}
use Rattle.pid_reader.proofs.laws.texts_read_to_trees.Goals as goal

pub returns : goal.returns
returns c = reads_tree
