use Rattle.pid_journal.proofs.opening.new_name.Goals as goal

pub returns-then-is_last-clause-asked : goal.returns-then-is_last-clause-asked
returns-then-is_last-clause-asked g c = record { honest = c.revision_of.ensures.honest; kept = c.revision_of.ensures.kept; told = tt; fault = tt }

pub returns-else-is_last-clause-asked : goal.returns-else-is_last-clause-asked
returns-else-is_last-clause-asked g c = record { honest = c.revision_of.ensures.honest; kept = c.revision_of.ensures.kept; told = c.in-Ok.ensures.told; fault = tt }

pub returns-in-Err-clause-asked : goal.returns-in-Err-clause-asked
returns-in-Err-clause-asked g c = record { honest = c.revision_of.ensures.honest; kept = c.revision_of.ensures.kept; told = tt; fault = c.in-Err.ensures.fault }
