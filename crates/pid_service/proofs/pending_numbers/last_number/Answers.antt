use Rattle.std.proofs.Common.{sym}
use Rattle.pid_service.proofs.PendingNumbers.{last_told}
use Rattle.pid_service.proofs.pending_numbers.last_number.Goals as goal

pub returns-in-Some : goal.returns-in-Some
returns-in-Some c = sym (last_told c.args.page.now c.args.after c.in-Some.pending.now (sym c.in-Some.ensures.value))
