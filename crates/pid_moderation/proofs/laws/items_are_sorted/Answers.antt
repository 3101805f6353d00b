use Rattle.pid_moderation.proofs.WriteLemmas.{items_sorted}
use Rattle.pid_moderation.proofs.laws.items_are_sorted.Goals as goal

pub returns : goal.returns
returns c = items_sorted
