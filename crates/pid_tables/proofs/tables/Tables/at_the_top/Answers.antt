use Rattle.std.proofs.Common.{None, map, ap}
use Rattle.pid_moderation.specs.ItemPairs.{pair_of}
use Rattle.pid_moderation.specs.Children.{stands_below}
use Rattle.pid_tables.proofs.OfLists.BelowLemmas.{kept_each}
use Rattle.pid_tables.proofs.tables.Tables.at_the_top.Goals as goal

pub returns-in-Ok : goal.returns-in-Ok
returns-in-Ok g c = record {
  rests = c.in-Ok.ensures.rests;
  told = λ clean v rest.
      kept_each (λ s. map pair_of s.kept.items) (λ e. stands_below None e.0) _ c.each_item.new.sink v.items (ap (map pair_of) c.new.ensures.items) (c.in-Ok.ensures.told clean v rest);
}
