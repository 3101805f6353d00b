use Rattle.std.proofs.Common.{refl}
use Rattle.pid_http.proofs.api.router.table.Goals as goal

pub returns : goal.returns
returns c = refl
