use Rattle.pid_tables.specs.Check.Steps.Labels.{IsLabel}
use Rattle.pid_tables.proofs.OfCheck.ItemFacts.{one_row}
use Rattle.pid_tables.proofs.check.meta.LabelsRowFold.keep.Goals as goal

pub returns-clause-kept : goal.returns-clause-kept
returns-clause-kept c first rows was = record {
  good = one_row IsLabel rows c.args.row.now c.args.self.now.good c.is_label.result c.is_label.ensures was.good;
  later = c.later_so_far-self.ensures rows was.later;
  schema = c.occurrence_so_far-self.ensures rows was.schema;
  items = c.occurrence_so_far-self-2.ensures rows was.items;
  submissions = c.occurrence_so_far-self-3.ensures rows was.submissions;
  revision = c.occurrence_so_far-self-4.ensures rows was.revision;
}
