use Rattle.std.proofs.Common.{ap}
use Rattle.pid_moderation.specs.RegistryStatus.{RegistryStatus}
use Rattle.pid_journal.proofs.segments.revision_of.Goals as goal

pub returns-in-Ok : goal.returns-in-Ok
returns-in-Ok g c = record {
  honest = c.status.ensures.calls.clean;
  kept = λ clean h shown. (c.in-Ok.ensures.told clean h shown).1;
  told = λ clean h shown. ap (λ (s : RegistryStatus). s.revision) (c.in-Ok.ensures.told clean h shown).0;
  fault = tt;
}

pub returns-in-Err : goal.returns-in-Err
returns-in-Err g c = record {
  honest = c.status.ensures.calls.clean;
  kept = λ clean h shown. (c.in-Err.ensures.told clean h shown).1;
  told = λ clean h shown. tt;
  fault = (tt, tt);
}
