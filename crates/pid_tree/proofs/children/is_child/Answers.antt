use Rattle.std.proofs.Common.{sym}
use Rattle.pid_tree.proofs.Places.{parent_test}
use Rattle.pid_tree.proofs.children.is_child.Goals as goal

pub returns-in-Some-clause-answer : goal.returns-in-Some-clause-answer
returns-in-Some-clause-answer c = rw c.eq.ensures (parent_test c.args.key c.in-Some.parent c.args.path c.parent.ensures.in_range c.requires (sym c.in-Some.ensures.parent))
