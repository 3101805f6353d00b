use Rattle.pid_moderation.proofs.KeysOnce.{at_most_once}
use Rattle.pid_moderation.proofs.laws.keys_stand_once.Goals as goal

pub returns : goal.returns
returns c = at_most_once
