use Rattle.pid_service.proofs.Reached.{reached_text}
use Rattle.pid_service.proofs.laws.items_print_as_their_tree.Goals as goal

pub returns : goal.returns
returns c = reached_text
