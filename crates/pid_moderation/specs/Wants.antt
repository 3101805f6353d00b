-- What the rows that are named stand for.
use Rattle.pid_moderation.specs.declared.wants.Rows.{Rows}
use Rattle.pid_moderation.specs.declared.wants.Rows.TheVariants as rows
use Rattle.pid_moderation.specs.FactsOfViews.{Wanted, RankOf, SubmissionCount, SubmissionOf}
use Rattle.pid_moderation.specs.FactsOfViews.{RemarksOf, ItemOf, NoRows}

abbrev pub wanted_by : Rows → Wanted
wanted_by (rows.Rank who) = RankOf who.now
wanted_by rows.Submissions = SubmissionCount
wanted_by (rows.Submission n) = SubmissionOf n
wanted_by (rows.Remarks n) = RemarksOf n
wanted_by (rows.Item n) = ItemOf n
wanted_by rows.Nothing = NoRows
