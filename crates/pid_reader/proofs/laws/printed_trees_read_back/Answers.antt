use Rattle.pid_reader.proofs.ReadBack.{read_back}
use Rattle.pid_reader.proofs.laws.printed_trees_read_back.Goals as goal

pub returns : goal.returns
returns c = read_back
