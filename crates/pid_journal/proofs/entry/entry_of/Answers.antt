use Rattle.std.proofs.Common.{ap, ◌∙◌}
use Rattle.std.specs.Prelude.{string_bytes}
use Rattle.pid_moderation.specs.Files.{asks}
use Rattle.pid_moderation.specs.RegistryStatus.{registry_status_of}
use Rattle.pid_journal.specs.Steps.Notes.{counts_in}
use Rattle.pid_journal.proofs.Reading.{counts_same, same_entry}
use Rattle.pid_journal.proofs.entry.entry_of.Goals as goal

pub returns-then-is_same : goal.returns-then-is_same
returns-then-is_same c =
    same_entry c.as_bytes.result.now (string_bytes c.in_ok-entry.entry) c.in-Ok.counts (counts_in (registry_status_of c.args.status.now)) (asks c.in-Ok.read) (asks c.args.command.now) c.as_bytes.ensures.value (counts_same c.in-Ok.counts c.counts_of.result c.if-eq.ensures ∙ c.counts_of.ensures) (ap asks (c.is_same.ensures c.if-is_same.true)) c.in-Ok.ensures
