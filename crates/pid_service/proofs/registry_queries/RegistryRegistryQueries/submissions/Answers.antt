use Rattle.std.proofs.Common.{refl}
use Rattle.pid_service.proofs.QueriesMet.{promised}
use Rattle.pid_service.proofs.Questions.{answers_after, answers_refused}
use Rattle.pid_service.proofs.Reached.{reached_readable}
use Rattle.pid_service.proofs.registry_queries.RegistryRegistryQueries.submissions.Goals as goal

pub returns-in-Ok : goal.returns-in-Ok
returns-in-Ok g c =
    promised g.C.Database c.args.self.now _ _ _
    (answers_after g.C.Database c.args.self.now c.keep_numbers.new.self _ _ c.page_by.result c.fault_as_refusal.result _ _ _ c.in-Ok.ensures refl refl c.page_by.ensures c.fault_as_refusal.ensures reached_readable (λ h page shows clean told. told (shows.kept clean).numbers))

pub returns-in-Err : goal.returns-in-Err
returns-in-Err g c =
    promised g.C.Database c.args.self.now _ _ _
    (answers_refused g.C.Database c.args.self.now c.keep_numbers.new.self c.in-Err.refusal _ _ c.in-Err.ensures)
