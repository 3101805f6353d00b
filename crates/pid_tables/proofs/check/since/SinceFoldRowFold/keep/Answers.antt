use Rattle.pid_tables.specs.Check.Conditions.{IsSinceRow}
use Rattle.pid_tables.proofs.OfCheck.ItemFacts.{one_row}
use Rattle.pid_tables.proofs.check.since.SinceFoldRowFold.keep.Goals as goal

pub returns-clause-kept : goal.returns-clause-kept
returns-clause-kept c first rows was = record {
  revision = was.revision;
  good = one_row (IsSinceRow c.args.self.now.revision) rows c.args.row.now c.args.self.now.good c.is_since_row.result (c.is_since_row.ensures c.in_ok-has_path.ensures.there) was.good;
  paths = c.in_ok-has_path.ensures.added rows was.paths;
}
