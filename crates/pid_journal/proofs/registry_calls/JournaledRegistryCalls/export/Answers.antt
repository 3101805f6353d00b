use Rattle.std.proofs.Common.{ap, refl}
use Rattle.pid_journal.specs.Steps.Living.{registry_off}
use Rattle.pid_journal.proofs.Pairing.{looks_nowhere, looks_on, not_both, still_shows, with_registry}
use Rattle.pid_journal.proofs.registry_calls.JournaledRegistryCalls.export.Goals as goal

pub returns-then-self-clause-calls : goal.returns-then-self-clause-calls
returns-then-self-clause-calls g c = looks_nowhere g.R.RegistryCalls g.J.JournalFile c.args.self.now

pub returns-then-self-clause-told : goal.returns-then-self-clause-told
returns-then-self-clause-told g c clean h shows = absurd (not_both c.args.self.now.failed c.if-self.true shows.1.settled)

pub returns-clause-calls : goal.returns-clause-calls
returns-clause-calls g c = looks_on g.R.RegistryCalls g.J.JournalFile c.args.self.now c.export.new.self c.export.ensures.calls c.export.ensures.kept.shown c.if-self.false

pub returns-clause-kept : goal.returns-clause-kept
returns-clause-kept g c = record {
  shown = λ clean h shows.
      (shows.0, still_shows g.R.RegistryCalls g.J.JournalFile shows.0 h c.args.self.now c.export.new.self shows.1 (c.export.ensures.kept.shown clean h shows.1.shown));
  beside = refl;
}

pub returns-clause-told : goal.returns-clause-told
returns-clause-told g c clean h shows = c.export.ensures.told clean h shows.1.shown

pub returns-clause-failed : goal.returns-clause-failed
returns-clause-failed g c off =
    let f = c.export.ensures.failed (registry_off c.args.self.now.failed (g.R.RegistryCalls.is_live c.args.self.now.registry) c.if-self.false off) in
    (f.0, ap (with_registry g.R.RegistryCalls g.J.JournalFile c.args.self.now) f.1, f.2)
