use Rattle.pid_http.specs.Api.Outcomes.{early_answer}
use Rattle.pid_http.specs.Answering.{Answered}
use Rattle.pid_http.proofs.Meeting.{answered, no_call, replied}
use Rattle.pid_http.proofs.dispatch.answer.Goals as goal

pub returns-in-Refused : goal.returns-in-Refused
returns-in-Refused g c =
    let given = early_answer c.in-Refused.early in
    rw c.in-Refused.is (replied _ _ _ (Answered given) _ given c.early_reply.ensures (no_call _ _ _ (answered given)))

pub returns-in-Asks : goal.returns-in-Asks
returns-in-Asks g c = rw c.in-Asks.is (rw c.in-Asks.is at c.answer_question.ensures)

pub returns-in-Obeys : goal.returns-in-Obeys
returns-in-Obeys g c = rw c.in-Obeys.is c.command.ensures
