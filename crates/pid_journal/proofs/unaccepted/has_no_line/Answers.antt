use Rattle.pid_journal.proofs.Unread.{never}
use Rattle.pid_journal.proofs.unaccepted.has_no_line.Goals as goal

pub returns : goal.returns
returns c = never c.is_refused.result c.args.command.now c.in-Import.file c.as_bytes-2.result.now c.in-Import.is c.as_bytes-2.ensures c.is_refused.ensures
