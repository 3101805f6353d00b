-- When the rows of the tables are what some registry kept: choices of this project.
use Rattle.std.specs.Prelude.{◌≡◌, ◌≢◌, ℕ, suc, ◌+◌, ◌≤◌, ◌<◌, true, false, List, [], ◌∷◌, length}
use Rattle.std.specs.Prelude.{map, Some, codes}
use Rattle.sqlite.specs.declared.types.Value.{Value}
use Rattle.sqlite.specs.declared.types.Value.TheVariants.{Text}
use Rattle.sqlite.specs.Order.{Row, column}
use Rattle.sqlite.specs.Tree.{Trees}
use Rattle.sqlite_rules.specs.Lists.{Has}
use Rattle.pid_file.specs.declared.path.Path.{Path}
use Rattle.pid_ident.specs.PathTexts.{IsPath, path_text, parent_of}
use Rattle.pid_ident.specs.Bytes.{is_empty}
use Rattle.pid_ident.specs.Words.{is_account, is_key, is_name, is_text}
use Rattle.pid_moderation.specs.declared.command.Reply.{Reply}
use Rattle.pid_moderation.specs.declared.command.Reply.TheVariants.{Done, Numbered, Counts}
use Rattle.pid_moderation.specs.declared.facts.State.{State}
use Rattle.pid_moderation.specs.declared.facts.State.TheVariants.{Pending, Approved, Rejected}
use Rattle.pid_moderation.specs.declared.facts.State.TheVariants.{Withdrawn}
use Rattle.pid_moderation.specs.CheckTables.{most_items, most_remarks}
use Rattle.pid_moderation.specs.CheckTables.{most_revision}
use Rattle.pid_moderation.specs.WellMade.{ProposesName}
use Rattle.pid_tables.specs.declared.rows.schema_version.Version.{Version}
use Rattle.pid_tables.specs.declared.rows.schema_version.Version.TheVariants.{One, Two}
use Rattle.pid_tables.specs.Rows.Schema.{latest, version_number}
use Rattle.pid_tables.specs.Rows.Schema as tables
use Rattle.pid_tables.specs.Rows.TableRows.{number, reply_kind, first_number, second_number}
use Rattle.pid_tables.specs.Rows.TableRows.{third_number}
use Rattle.pid_moderation.specs.Submissions.{Standing}
use Rattle.pid_tables.specs.Rows.Answers.{standing_row}

-- the rows of the tables, by the columns of the schema in their order; those of item_since mean
-- something in schema 2 alone
pub record Rows : Type 0 where
  pub meta : List Row
  pub accounts : List Row
  pub items : List Row
  pub submissions : List Row
  pub remarks : List Row
  pub receipts : List Row
  pub sinces : List Row

-- the values of some columns of a row, as storage keeps it
abbrev pub columns : List ℕ → Row → Row
columns places r = map (column r) places

-- as storage keeps them: the rowid comes before the columns, and is itself the number of a
-- submission
abbrev pub rows_in : Trees → Rows
rows_in db = record {
  meta = map (columns (1 ∷ 2 ∷ [])) (db tables.meta.tree);
  accounts = map (columns (1 ∷ 2 ∷ [])) (db tables.account.tree);
  items = map (columns (1 ∷ 2 ∷ [])) (db tables.item.tree);
  submissions = map (columns (0 ∷ 2 ∷ 3 ∷ 4 ∷ 5 ∷ 6 ∷ 7 ∷ 8 ∷ 9 ∷ [])) (db tables.submission.tree);
  remarks = map (columns (1 ∷ 2 ∷ 3 ∷ 4 ∷ [])) (db tables.remark.tree);
  receipts = map (columns (1 ∷ 2 ∷ 3 ∷ 4 ∷ 5 ∷ 6 ∷ [])) (db tables.receipt.tree);
  sinces = map (columns (1 ∷ 2 ∷ [])) (db tables.item_since.tree);
}

-- some row has the value in the column
abbrev pub HasValue : List Row → ℕ → Value → Type 0
HasValue rows at value = (r : Row) × Has rows r × (column r at ≡ value)

-- ---- meta

-- the labels that a schema has in addition to the three: schema 2 has the revision
abbrev pub labels_beside : Version → ℕ → List (List ℕ × ℕ)
labels_beside One revision = []
labels_beside Two revision = (codes "revision", revision) ∷ []

-- the labels of a schema with their numbers: that of the schema, how many items there are, and how
-- many submissions
abbrev pub labels : Version → ℕ → ℕ → ℕ → List (List ℕ × ℕ)
labels version items submissions revision = (codes "schema", version_number version)
    ∷ (codes "items", items) ∷ (codes "submissions", submissions) ∷ labels_beside version revision

abbrev pub label_row : List ℕ × ℕ → Row
label_row e = Text e.0 ∷ number e.1 ∷ []

-- the rows of meta are those of the labels
pub record AreLabels (version : Version) (items submissions revision : ℕ)
    (meta : List Row) : Type 0 where
  pub each : (r : Row) → Has meta r → (e : List ℕ × ℕ)
      × Has (labels version items submissions revision) e × (r ≡ label_row e)
  pub there : (e : List ℕ × ℕ) → Has (labels version items submissions revision) e
      → Has meta (label_row e)

-- a later schema says its number
abbrev pub IsNewer : ℕ → List Row → Type 0
IsNewer n meta = (latest < n) × Has meta (label_row (codes "schema", n))

-- ---- account

-- the name of an account, and a rank
pub record IsAccountRow (r : Row) : Type 0 where
  pub name : List ℕ
  pub rank : ℕ
  pub is : r ≡ Text name ∷ number rank ∷ []
  pub good : is_account name ≡ true
  pub ranked : rank ≤ 3

abbrev pub HasAccount : List Row → List ℕ → Type 0
HasAccount accounts name = HasValue accounts 0 (Text name)

-- `root` is an account, and some account is an administrator
pub record AreAccounts (accounts : List Row) : Type 0 where
  pub each : (r : Row) → Has accounts r → IsAccountRow r
  pub root : HasAccount accounts (codes "root")
  pub administrator : HasValue accounts 1 (number 3)

-- ---- item

abbrev pub HasItemRow : List Row → Path → Type 0
HasItemRow items path = HasValue items 0 (Text (path_text path))

-- a path and a name; the parent of the path is there too
pub record IsItemRow (items : List Row) (r : Row) : Type 0 where
  pub path : Path
  pub name : List ℕ
  pub is : r ≡ Text (path_text path) ∷ Text name ∷ []
  pub in_range : IsPath path
  pub good : is_name name ≡ true
  pub parent : (above : Path) → parent_of path ≡ Some above → HasItemRow items above

-- at most 100,000 items
pub record AreItems (items : List Row) : Type 0 where
  pub each : (r : Row) → Has items r → IsItemRow items r
  pub limit : length items ≤ most_items

-- ---- submission

-- who decided is an account other than the author; a rejection has a reason
abbrev pub IsDecided : List Row → List ℕ → State → Type 0
IsDecided accounts author Pending = Unit {0}
IsDecided accounts author (Approved decider) = (decider ≢ author) × HasAccount accounts decider
IsDecided accounts author (Rejected decider reason) = (decider ≢ author)
    × HasAccount accounts decider × (is_text reason ≡ true) × (is_empty reason ≡ false)
IsDecided accounts author Withdrawn = Unit {0}

-- a submission of an account, as it stands; its number is at most the count
pub record IsSubmissionRow (accounts : List Row) (count : ℕ) (r : Row) : Type 0 where
  pub num : ℕ
  pub standing : Standing
  pub is : r ≡ number num ∷ standing_row standing
  pub within : (1 ≤ num) × (num ≤ count)
  pub author : HasAccount accounts standing.submitted.author
  pub path : IsPath standing.submitted.path
  pub proposal : ProposesName standing.submitted.proposal
  pub note : is_text standing.submitted.note ≡ true
  pub state : IsDecided accounts standing.submitted.author standing.state

-- the numbers of submissions are 1 to the count, without a gap
pub record AreSubmissions (accounts submissions : List Row) : Type 0 where
  pub each : (r : Row) → Has submissions r → IsSubmissionRow accounts (length submissions) r
  pub counted : (n : ℕ) → 1 ≤ n → n ≤ length submissions → HasValue submissions 0 (number n)

-- ---- remark

abbrev pub HasRemark : List Row → ℕ → ℕ → Type 0
HasRemark remarks num place = (r : Row) × Has remarks r × (column r 0 ≡ number num)
    × (column r 1 ≡ number place)

-- a remark that is not empty, at its place among those of its submission: the place before it is
-- taken too
pub record IsRemarkRow (remarks : List Row) (r : Row) : Type 0 where
  pub num : ℕ
  pub place : ℕ
  pub author : List ℕ
  pub body : List ℕ
  pub is : r ≡ number num ∷ number place ∷ Text author ∷ Text body ∷ []
  pub within : (1 ≤ place) × (place ≤ most_remarks)
  pub before : (earlier : ℕ) → 1 ≤ earlier → place ≡ suc earlier → HasRemark remarks num earlier
  pub text : is_text body ≡ true
  pub filled : is_empty body ≡ false

-- so the places on a submission are 1 to their count
abbrev pub AreRemarks : List Row → Type 0
AreRemarks remarks = (r : Row) → Has remarks r → IsRemarkRow remarks r

-- ---- receipt

-- a number is that of a submission of the account, and counts are those of a file that is not too
-- large
abbrev pub IsOwn : List Row → List ℕ → Reply → Type 0
IsOwn submissions account Done = Unit {0}
IsOwn submissions account (Numbered n) = (r : Row) × Has submissions r × (column r 0 ≡ number n)
    × (column r 1 ≡ Text account)
IsOwn submissions account (Counts added renamed same) = added + renamed + same ≤ most_items

-- a reply that is kept under a key
pub record IsReceiptRow (submissions : List Row) (r : Row) : Type 0 where
  pub account : List ℕ
  pub token : List ℕ
  pub reply : Reply
  pub is : r ≡ Text account ∷ Text token ∷ number (reply_kind reply) ∷ number (first_number reply)
      ∷ number (second_number reply) ∷ number (third_number reply) ∷ []
  pub good : is_account account ≡ true
  pub key : is_key token ≡ true
  pub own : IsOwn submissions account reply

abbrev pub AreReceipts : List Row → List Row → Type 0
AreReceipts submissions receipts = (r : Row) → Has receipts r → IsReceiptRow submissions r

-- ---- item_since

-- the path of an item, and the number of the last change of its name, which is at most the revision
pub record IsSinceRow (revision : ℕ) (r : Row) : Type 0 where
  pub path : Path
  pub since : ℕ
  pub is : r ≡ Text (path_text path) ∷ number since ∷ []
  pub in_range : IsPath path
  pub within : since ≤ revision

-- each item has a row
pub record AreSinces (revision : ℕ) (items sinces : List Row) : Type 0 where
  pub each : (r : Row) → Has sinces r → IsSinceRow revision r
  pub there : (path : Path) → IsPath path → HasItemRow items path → HasItemRow sinces path

-- schema 1 keeps no numbers of changes
abbrev pub AreNumbered : Version → ℕ → Rows → Type 0
AreNumbered One revision t = Unit {0}
AreNumbered Two revision t = AreSinces revision t.items t.sinces

-- meta has the labels with the counts, and the numbers of changes go with the revision
pub record AreCounted (version : Version) (t : Rows) : Type 0 where
  pub revision : ℕ
  pub limit : revision ≤ most_revision
  pub labels : AreLabels version (length t.items) (length t.submissions) revision t.meta
  pub sinces : AreNumbered version revision t

-- ---- all of them

-- The rows are those of a registry in this schema. What the tables themselves keep of their rows is
-- not said again: that a remark is on a submission and a receipt of an account, that a row of
-- item_since is of an item, and that no key comes twice.
pub record AreOfRegistry (version : Version) (t : Rows) : Type 0 where
  pub counts : AreCounted version t
  pub accounts : AreAccounts t.accounts
  pub items : AreItems t.items
  pub submissions : AreSubmissions t.accounts t.submissions
  pub remarks : AreRemarks t.remarks
  pub receipts : AreReceipts t.submissions t.receipts
