use Rattle.pid_cli.proofs.Runs.{tables_sound}
use Rattle.pid_cli.proofs.laws.tables_leave_databases.Goals as goal

pub returns : goal.returns
returns g c = tables_sound g.C.Database
