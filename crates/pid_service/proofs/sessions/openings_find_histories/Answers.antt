use Rattle.pid_service.proofs.Finding.{close_finds, opening_finds, stop_finds, stop_keeps}
use Rattle.pid_service.proofs.sessions.openings_find_histories.Goals as goal

pub returns : goal.returns
returns g c = record {
  stops = stop_keeps g.C.Database g.D.Database (λ conn. g.met.D.Database.durable conn);
  stopped = stop_finds g.C.Database g.D.Database (λ conn. g.met.D.Database.durable conn);
  closed = close_finds g.C.Database;
  opened = opening_finds g.C.Database g.D.Database;
}
