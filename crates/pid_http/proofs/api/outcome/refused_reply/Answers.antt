use Rattle.std.proofs.Common.{refl}
use Rattle.pid_http.proofs.api.outcome.refused_reply.Goals as goal

pub returns : goal.returns
returns c = c.json_reply.ensures _ c.in_ok-value.ensures refl
