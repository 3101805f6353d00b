use Rattle.std.proofs.Common.{rules}
use Rattle.pid_tests_registry.proofs.Noting.{noted}
use Rattle.pid_tests_registry.proofs.serving.account.Account.note.Goals as goal

pub returns-else-is_err-clause-noted : goal.returns-else-is_err-clause-noted
returns-else-is_err-clause-noted c = noted c.args.self.now.is_lost c.args.self.now.kept.items c.push.new.self.items (record { to_come = c.args.self.now.rest; taken = c.in-Ok.taken }) c.args.output.now.taken.items (search rules) (search rules)
