use Rattle.pid_http.proofs.api.outcome.absent_reply.Goals as goal

pub returns-in-Json : goal.returns-in-Json
returns-in-Json c = rw c.in-Json.is c.refused_reply.ensures
