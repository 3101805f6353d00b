-- The tables between the two schemas, while a transaction moves them.
use Rattle.std.specs.Prelude.{◌≡◌}
use Rattle.sqlite.specs.Effect.{Database, IsDatabase}
use Rattle.pid_moderation.specs.Items.{name_at}
use Rattle.pid_moderation.specs.Views.{Views}
use Rattle.pid_tables.specs.declared.rows.schema_version.Version.TheVariants.{One, Two}
use Rattle.pid_tables.specs.Rows.PairRows.{RowsAre}
use Rattle.pid_tables.specs.Rows.Schema.{schema_of}
use Rattle.pid_tables.specs.Rows.Schema as tables
use Rattle.pid_tables.specs.Rows.Shows.{Counts, AreViews, labels_of, remark_in, receipt_in}
use Rattle.pid_tables.specs.Rows.Shows.{since_in}
use Rattle.pid_moderation.specs.Submissions.{standing_in}
use Rattle.pid_tables.specs.Rows.TableRows.{meta_row, account_row, item_row, submission_row}
use Rattle.pid_tables.specs.Rows.TableRows.{remark_row, receipt_row, since_row}

-- they are those of schema 2 and show the views, but that the labels are still those of schema 1;
-- no command was counted yet
pub record IsBetween (counts : Counts) (db : Database) (v : Views) : Type 0 where
  pub schema : db.schema ≡ schema_of Two
  pub sound : IsDatabase db
  pub views : AreViews v
  pub uncounted : v.revision ≡ 0
  pub meta : RowsAre meta_row (labels_of One counts 0) (db.trees tables.meta.tree)
  pub accounts : RowsAre account_row v.rank (db.trees tables.account.tree)
  pub items : RowsAre item_row (λ path. name_at path v.items) (db.trees tables.item.tree)
  pub submissions : RowsAre submission_row (standing_in v) (db.trees tables.submission.tree)
  pub remarks : RowsAre remark_row (remark_in v) (db.trees tables.remark.tree)
  pub receipts : RowsAre receipt_row (receipt_in v) (db.trees tables.receipt.tree)
  pub sinces : RowsAre since_row (since_in v) (db.trees tables.item_since.tree)
