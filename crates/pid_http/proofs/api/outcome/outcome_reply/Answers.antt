use Rattle.pid_http.proofs.OfApi.Floats.{outcome_has_none}
use Rattle.pid_http.proofs.api.outcome.outcome_reply.Goals as goal

pub returns-in_ok-value-in-Json : goal.returns-in_ok-value-in-Json
returns-in_ok-value-in-Json c = rw (c.in-Json.is, ← c.status_of-status.ensures.value) (c.json_reply.ensures _ c.in_ok-value-in-Json.ensures (outcome_has_none c.args.outcome))
