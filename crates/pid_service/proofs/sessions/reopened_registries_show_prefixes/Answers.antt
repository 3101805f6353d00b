use Rattle.pid_service.proofs.Prefixes.{prefixes_shown}
use Rattle.pid_service.proofs.sessions.reopened_registries_show_prefixes.Goals as goal

pub returns : goal.returns
returns g c = prefixes_shown g.C.Database g.D.Database
