use Rattle.pid_moderation.proofs.TreesAreFiles.{tree_file}
use Rattle.pid_moderation.proofs.laws.trees_are_files.Goals as goal

pub returns : goal.returns
returns c = tree_file
