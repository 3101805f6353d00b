use Rattle.sqlite_store.specs.Laws.{stays_at}
use Rattle.pid_cli.proofs.Runs.{finds_left}
use Rattle.pid_cli.proofs.laws.files_show_what_was_left.Goals as goal

pub returns : goal.returns
returns g c earlier conn sound run clean =
    finds_left earlier conn (stays_at earlier.store g.met.D.Disk.seen_may_stay) sound run clean
