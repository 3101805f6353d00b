use Rattle.std.specs.Fmt.{digits}
use Rattle.pid_script.proofs.reply.refuse_long.Goals as goal

pub returns-in-Ok : goal.returns-in-Ok
unfolding digits
returns-in-Ok g c = c.in-Ok.ensures.0

pub returns-in-Err : goal.returns-in-Err
unfolding digits
returns-in-Err g c = (c.in-Err.ensures.1, c.in-Err.ensures.2)
