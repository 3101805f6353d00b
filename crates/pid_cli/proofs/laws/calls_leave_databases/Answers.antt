use Rattle.pid_cli.proofs.Runs.{session_sound}
use Rattle.pid_cli.proofs.laws.calls_leave_databases.Goals as goal

pub returns : goal.returns
returns g c opened ended h calls shows lead clean =
    session_sound g.C.Database h calls ended (c.calls_make_a_session.ensures opened ended h calls shows lead clean) clean
