use Rattle.std.proofs.Common.{[], ◌∷◌, length-append, arith}
use Rattle.pid_tables.specs.Check.Steps.PathSets.{IsItemAlone}
use Rattle.pid_tables.proofs.OfCheck.ItemFacts.{one_row}
use Rattle.pid_tables.proofs.check.item.ItemsRowFold.keep.Goals as goal

pub returns-clause-kept : goal.returns-clause-kept
returns-clause-kept c first rows was = record {
  good = one_row IsItemAlone rows c.args.row.now c.args.self.now.good c.is_item_row.result (c.is_item_row.ensures c.in_ok-has_path.ensures.there) was.good;
  count = omega (arith, c.in_ok-self.ensures.next, was.count, length-append rows (c.args.row.now ∷ []));
  paths = c.in_ok-has_path.ensures.added rows was.paths;
}
