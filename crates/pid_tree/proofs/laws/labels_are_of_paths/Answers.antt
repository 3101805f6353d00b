use Rattle.pid_tree.proofs.Labelled.{label_of_text}
use Rattle.pid_tree.proofs.laws.labels_are_of_paths.Goals as goal

pub returns : goal.returns
returns c = label_of_text
