use Rattle.pid_tables.proofs.OfCheck.Kept.{registry_kept}
use Rattle.pid_tables.proofs.check.laws.sound_histories_are_registries.Goals as goal

pub returns : goal.returns
returns c h sound limit = registry_kept c.items_are_sorted.ensures h sound limit (c.sinces_are_last_changes.ensures.within h)
