use Rattle.std.proofs.Common.{inl, inr, refl}
use Rattle.pid_cli_jobs.proofs.scripts.end_of.Goals as goal

pub returns-in-ReadFault : goal.returns-in-ReadFault
returns-in-ReadFault c = inl (c.in-ReadFault.is, refl)
