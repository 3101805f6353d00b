use Rattle.pid_journal.proofs.opening.goes_on.Goals as goal

pub returns-then-read-longest : goal.returns-then-read-longest
returns-then-read-longest g c = record { honest = λ clean. clean; kept = λ clean h shown. shown; fault = tt }

pub returns-in-Ok : goal.returns-in-Ok
returns-in-Ok g c = record {
  honest = c.new_name.ensures.asked.honest;
  kept = c.new_name.ensures.asked.kept;
  fault = tt;
}

pub returns-in-Err : goal.returns-in-Err
returns-in-Err g c = record { honest = c.new_name.ensures.asked.honest; kept = c.new_name.ensures.asked.kept; fault = c.in-Err.ensures.asked.fault }
