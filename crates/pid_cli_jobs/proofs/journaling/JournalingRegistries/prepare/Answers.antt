use Rattle.std.proofs.Common.{rules}
use Rattle.pid_cli_jobs.proofs.Preparing.{pair_asked, pair_lives}
use Rattle.pid_cli_jobs.proofs.journaling.JournalingRegistries.prepare.Goals as goal

pub returns : goal.returns
returns g c = record {
  calls = pair_asked g.G.Registry.RegistryCalls g.F.Segment.JournalFile c.args.pair.now c.prepare.new.registry (rw c.registry_mut.ensures.value at c.prepare.ensures) (search rules);
  lives = pair_lives g.G.Registry.RegistryCalls g.F.Segment.JournalFile c.args.pair.now c.prepare.new.registry (rw c.registry_mut.ensures.value at c.prepare.ensures);
}
