-- When a database shows what a history shows: its rows are exactly the views of the history, and no
-- row keeps a command.
use Rattle.std.specs.Prelude.{◌≡◌, ℕ, zero, suc, true, List, length, slice_get, Option, Some, None}
use Rattle.std.specs.Prelude.{option_map, if◌then◌else◌, codes}
use Rattle.std.specs.Str.{bytes_eq}
use Rattle.std.specs.List.{AllByRecursion}
use Rattle.std.specs.FinMap.Entries.{is_sorted}
use Rattle.sqlite.specs.Effect.{Database, IsDatabase}
use Rattle.sqlite.specs.Tree.{Trees}
use Rattle.pid_ident.specs.PathTexts.{IsPath}
use Rattle.pid_ident.specs.Trees.{text_cmp}
use Rattle.pid_moderation.specs.declared.command.Reply.{Reply}
use Rattle.pid_moderation.specs.declared.facts.State.TheVariants.{Pending}
use Rattle.pid_moderation.specs.Items.{name_at}
use Rattle.pid_moderation.specs.Submissions.{standing_in}
use Rattle.pid_moderation.specs.Views.{Views, Submitted, Remark, submission_at}
use Rattle.pid_tables.specs.declared.rows.schema_version.Version.{Version}
use Rattle.pid_tables.specs.declared.rows.schema_version.Version.TheVariants.{One, Two}
use Rattle.pid_tables.specs.Rows.Schema.{schema_of, version_number}
use Rattle.pid_tables.specs.Rows.Schema as tables
use Rattle.pid_tables.specs.Rows.PairRows.{Map, RowsAre}
use Rattle.pid_tables.specs.Rows.TableRows.{meta_row, account_row, item_row, submission_row}
use Rattle.pid_tables.specs.Rows.TableRows.{remark_row, receipt_row, since_row}

-- how many items and submissions there are
pub record Counts : Type 0 where
  pub items : ℕ
  pub submissions : ℕ

-- what the tables keep of changes: the revision, and by paths the numbers of the last changes
pub record Numbers : Type 0 where
  pub revision : ℕ
  pub since : Map (List ℕ) ℕ

-- the labels that the schemas have in addition to the three
abbrev pub more_labels : Version → ℕ → Map (List ℕ) ℕ
more_labels One revision label = None
more_labels Two revision label = if bytes_eq label (codes "revision") then Some revision else None

-- the labels of a schema: its number and the counts, and in schema 2 the revision
abbrev pub labels_of : Version → Counts → ℕ → Map (List ℕ) ℕ
labels_of version counts revision label =
    if bytes_eq label (codes "schema") then Some (version_number version)
    else if bytes_eq label (codes "items") then Some counts.items
    else if bytes_eq label (codes "submissions") then Some counts.submissions
    else more_labels version revision label

-- the element at a place that counts from 1
abbrev pub counted_from_one : {X : Type 0} → ℕ → List X → Option X
counted_from_one zero xs = None
counted_from_one (suc n) xs = slice_get xs n

-- each remark, by the number of its submission and its place
abbrev pub remark_in : Views → Map (ℕ × ℕ) Remark
remark_in v at = counted_from_one at.1 (v.remarks at.0)

-- each kept reply, by its account and key
abbrev pub receipt_in : Views → Map (List ℕ × List ℕ) Reply
receipt_in v at = v.kept at.0 at.1

-- what the views of every history keep: the items are in the order of their paths, paths have the
-- numbers of identifiers, and what is not yet submitted is pending
pub record AreViews (v : Views) : Type 0 where
  pub sorted : is_sorted text_cmp v.items ≡ true
  pub paths : AllByRecursion (λ (s : Submitted). IsPath s.path) v.submits
  pub pending : (n : ℕ) → submission_at n v.submits ≡ None → v.state n ≡ Pending

-- schema 2 has a table of the numbers by paths; schema 1 has none, and shows only what has no other
-- number than 0
abbrev pub ShowsNumbers : Version → Numbers → Trees → Type 0
ShowsNumbers One numbers db = (numbers.revision ≡ 0)
    × ((path : List ℕ) (since : ℕ) → numbers.since path ≡ Some since → since ≡ 0)
ShowsNumbers Two numbers db = RowsAre since_row numbers.since (db tables.item_since.tree)

-- tables of a schema show the views, while they keep these counts and these numbers
pub record ShowsKeeping (version : Version) (counts : Counts) (numbers : Numbers) (db : Database)
    (v : Views) : Type 0 where
  pub schema : db.schema ≡ schema_of version
  pub sound : IsDatabase db
  pub views : AreViews v
  pub meta : RowsAre meta_row (labels_of version counts numbers.revision)
      (db.trees tables.meta.tree)
  pub accounts : RowsAre account_row v.rank (db.trees tables.account.tree)
  pub items : RowsAre item_row (λ path. name_at path v.items) (db.trees tables.item.tree)
  pub submissions : RowsAre submission_row (standing_in v) (db.trees tables.submission.tree)
  pub remarks : RowsAre remark_row (remark_in v) (db.trees tables.remark.tree)
  pub receipts : RowsAre receipt_row (receipt_in v) (db.trees tables.receipt.tree)
  pub sinces : ShowsNumbers version numbers db.trees

-- the counts that the views have
abbrev pub counts_of : Views → Counts
counts_of v = record { items = length v.items; submissions = length v.submits }

-- a path has a number if it has an item
abbrev pub since_in : Views → Map (List ℕ) ℕ
since_in v path = option_map (λ name. v.since path) (name_at path v.items)

-- the numbers that the views have
abbrev pub numbers_in : Views → Numbers
numbers_in v = record { revision = v.revision; since = since_in v }

-- tables of a schema show the views
abbrev pub ShowsIn : Version → Database → Views → Type 0
ShowsIn version db v = ShowsKeeping version (counts_of v) (numbers_in v) db v

-- tables of schema 2, which this program makes, show the views
abbrev pub Shows : Database → Views → Type 0
Shows db v = ShowsIn Two db v
