use Rattle.std.proofs.Common.{refl}
use Rattle.pid_http.proofs.api.rank.rank_reply.Goals as goal

pub returns-in_ok-value-in-Json : goal.returns-in_ok-value-in-Json
returns-in_ok-value-in-Json c = rw (c.in-Some.is, c.in-Json.is) (c.json_reply.ensures _ c.in_ok-value-in-Json.ensures refl)

pub returns-in_default : goal.returns-in_default
returns-in_default c = rw c.in_default.is c.absent_reply.ensures
