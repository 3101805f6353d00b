use Rattle.pid_tables.specs.Check.Steps.PlaceSets.{IsRemark}
use Rattle.pid_tables.proofs.OfCheck.ItemFacts.{one_row}
use Rattle.pid_tables.proofs.check.remark.RemarkFoldRowFold.keep.Goals as goal

pub returns-clause-kept : goal.returns-clause-kept
returns-clause-kept c first rows was = record {
  good = one_row IsRemark rows c.args.row.now c.args.self.now.good c.is_remark_row.result c.is_remark_row.ensures was.good;
  places = c.in_ok-add_place.ensures.added rows was.places;
}
