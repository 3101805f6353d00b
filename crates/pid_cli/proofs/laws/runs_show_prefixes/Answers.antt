use Rattle.std.proofs.Math.Logic.{∥∥₁_map}
use Rattle.pid_cli.proofs.laws.runs_show_prefixes.Goals as goal

pub returns : goal.returns
returns g c opened ended conn next start runs calls shows lead after opens clean =
    ∥∥₁_map after (λ session. c.openings_tell_prefixes.ensures opened ended start runs calls shows lead conn session next opens clean)
