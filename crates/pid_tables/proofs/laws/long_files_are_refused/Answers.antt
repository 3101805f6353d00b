use Rattle.pid_tables.proofs.Judged.{long_refused}
use Rattle.pid_tables.proofs.Readings.{long_alone}
use Rattle.pid_tables.proofs.laws.long_files_are_refused.Goals as goal

pub returns-clause-readings : goal.returns-clause-readings
returns-clause-readings c = long_alone

pub returns-clause-refused : goal.returns-clause-refused
returns-clause-refused c = long_refused
