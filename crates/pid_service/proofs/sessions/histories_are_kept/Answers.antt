use Rattle.pid_service.proofs.Finding.{move_keeps, move_shows, move_only_store, unopened_keeps, unopened_only_store}
use Rattle.pid_service.proofs.sessions.histories_are_kept.Goals as goal

pub returns : goal.returns
returns g c = record {
  moved = move_shows g.C.Database;
  migrated = move_keeps g.C.Database;
  unopened = unopened_keeps g.C.Database;
  unmoved_for = move_only_store g.C.Database;
  unopened_for = unopened_only_store g.C.Database;
}
