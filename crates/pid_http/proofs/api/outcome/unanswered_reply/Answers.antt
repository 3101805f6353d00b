use Rattle.pid_http.proofs.api.outcome.unanswered_reply.Goals as goal

pub returns : goal.returns
returns c = rw (← c.number.ensures, ← c.word.ensures) c.refused_reply.ensures
