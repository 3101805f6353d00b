use Rattle.std.proofs.lemmas.Bool.{false≢true}
use Rattle.pid_service.proofs.renewing.put.Goals as goal

pub returns-then-len-end : goal.returns-then-len-end
returns-then-len-end g c is = absurd (false≢true is)

pub returns-in-Err : goal.returns-in-Err
returns-in-Err g c is = absurd (false≢true is)
