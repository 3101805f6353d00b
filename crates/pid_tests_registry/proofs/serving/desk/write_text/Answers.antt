use Rattle.pid_tests_registry.proofs.Fronts.{some_front, all_of_it}
use Rattle.pid_tests_registry.proofs.serving.desk.write_text.Goals as goal

pub returns-in-Err-clause-written : goal.returns-in-Err-clause-written
returns-in-Err-clause-written g c = some_front _ _ _ c.in-Err.ensures.sent

pub returns-then-stops-clause-written : goal.returns-then-stops-clause-written
returns-then-stops-clause-written g c = all_of_it _ _ _ c.in-Ok.ensures.sent
