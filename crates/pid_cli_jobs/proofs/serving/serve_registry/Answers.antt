use Rattle.std.proofs.Common.{refl}
use Rattle.pid_cli_jobs.specs.Jobs.{Unbound}
use Rattle.pid_cli_jobs.proofs.serving.serve_registry.Goals as goal

pub returns-in_default-clause-offers : goal.returns-in_default-clause-offers
returns-in_default-clause-offers g c = Unbound refl (refl, c.report_socket.ensures)

pub returns-clause-offers : goal.returns-clause-offers
returns-clause-offers g c = c.serve_listener.ensures.offers

pub returns-clause-goes : goal.returns-clause-goes
returns-clause-goes g c = c.serve_listener.ensures.goes
