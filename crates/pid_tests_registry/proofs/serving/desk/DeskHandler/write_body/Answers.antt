use Rattle.pid_tests_registry.proofs.serving.desk.DeskHandler.write_body.Goals as goal

pub returns-clause-written : goal.returns-clause-written
returns-clause-written g c = record { good = λ h. h; leads = λ good v stands. (v, stands, (_, tt, c.write_text.ensures.written)) }
