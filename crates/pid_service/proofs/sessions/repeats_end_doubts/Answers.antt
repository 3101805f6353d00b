use Rattle.pid_service_laws.proofs.Calling.{sent_again}
use Rattle.pid_service.specs.Histories.{showing}
use Rattle.pid_service.specs.Registries.{is_live}
use Rattle.pid_service.proofs.sessions.repeats_end_doubts.Goals as goal

pub returns : goal.returns
returns g c ended opened between last h asked key calls result = sent_again (showing g.C.Database) (showing g.D.Database) ended opened between last h asked key calls result (is_live last)
