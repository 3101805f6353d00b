use Rattle.std.proofs.Common.{refl}
use Rattle.pid_script.proofs.AnswerLines.{some_fault}
use Rattle.pid_script.proofs.output.send.Goals as goal

pub returns-in-Ok : goal.returns-in-Ok
returns-in-Ok g c = (c.in-Ok.ensures.sent, refl)

pub returns-in-Err : goal.returns-in-Err
returns-in-Err g c = (refl, c.in-Err.ensures.sent, some_fault _ _ c.in-Err.ensures.fault)
