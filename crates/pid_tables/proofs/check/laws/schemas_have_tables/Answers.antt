use Rattle.std.proofs.Common.{refl}
use Rattle.pid_tables.specs.Rows.Schema.{schema_of}
use Rattle.pid_tables.proofs.OfCheck.Complete.{bare, complete, has_tables, made_first}
use Rattle.pid_tables.proofs.check.laws.schemas_have_tables.Goals as goal

pub returns-clause-none : goal.returns-clause-none
returns-clause-none c = bare

pub returns-clause-each : goal.returns-clause-each
returns-clause-each c version = complete version (schema_of version) refl

pub returns-clause-tables : goal.returns-clause-tables
returns-clause-tables c = has_tables

pub returns-clause-first : goal.returns-clause-first
returns-clause-first c = made_first
