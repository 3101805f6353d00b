use Rattle.std.proofs.Common.{◌≤◌, length, sym, subst}
use Rattle.pid_moderation.specs.CheckTables.{most_items}
use Rattle.pid_moderation.specs.WellMade.{AllItems, HoldsParents}
use Rattle.pid_moderation.specs.Writes.{tree_of}
use Rattle.pid_tables.proofs.OfRows.SoundReads.{sound_reads}
use Rattle.pid_tables.proofs.SoundLemmas.{are_views}
use Rattle.pid_tables.proofs.laws.views_of_sound_histories.Goals as goal

pub returns-clause-views : goal.returns-clause-views
returns-clause-views c h sound = are_views h sound (c.trees_are_last_writes.ensures.entries h)

pub returns-clause-items : goal.returns-clause-items
returns-clause-items c h sound =
    let is = c.trees_are_last_writes.ensures.entries h in
    let few = subst (λ items. length items ≤ most_items) (sym is) sound.item_limit in
    subst AllItems is (c.trees_are_files.ensures (tree_of h) sound.tree few).items

pub returns-clause-readable : goal.returns-clause-readable
returns-clause-readable c h sound = sound_reads c.trees_are_files.ensures h (c.trees_are_last_writes.ensures.entries h) sound

pub returns-clause-parents : goal.returns-clause-parents
returns-clause-parents c h sound =
    let is = c.trees_are_last_writes.ensures.entries h in
    let few = subst (λ items. length items ≤ most_items) (sym is) sound.item_limit in
    subst HoldsParents is (c.trees_are_files.ensures (tree_of h) sound.tree few).tree
