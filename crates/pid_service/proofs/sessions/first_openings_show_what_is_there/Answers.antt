use Rattle.pid_service.proofs.Finding.{bare_shows_none, first_shows, none_reached, shown_rests}
use Rattle.pid_service.proofs.sessions.first_openings_show_what_is_there.Goals as goal

pub returns : goal.returns
returns g c = record {
  bare = bare_shows_none g.C.Database (λ conn. g.met.C.Database.durable conn);
  new = none_reached;
  there = shown_rests g.C.Database (λ conn. g.met.C.Database.durable conn);
  opened = first_shows g.C.Database;
}
