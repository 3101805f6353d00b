-- What is kept of tables that were read and judged, and what it says of their rows.
use Rattle.std.specs.Prelude.{◌≡◌, ◌↔◌, ◌≤◌, ℕ, Bool, List, length, IsTrue, String}
use Rattle.std.specs.declared.alloc.Global.{Global}
use Rattle.std.specs.BTreeSet.{BTreeSet}
use Rattle.sqlite.specs.Effect.{Database}
use Rattle.sqlite.specs.Order.{Row}
use Rattle.sqlite_rules.specs.Lists.{Has}
use Rattle.pid_file.specs.declared.path.Path.{Path}
use Rattle.pid_tables.specs.declared.rows.schema_version.Version.{Version}
use Rattle.pid_tables.specs.declared.rows.schema_version.Version.TheVariants.{One, Two}
use Rattle.pid_tables.specs.Rows.TableRows.{number}
use Rattle.pid_tables.specs.declared.check.account.Accounts.{Accounts}
use Rattle.pid_tables.specs.declared.check.authors.Authors.{Authors}
use Rattle.pid_tables.specs.declared.check.receipt.ReceiptFold.{ReceiptFold}
use Rattle.pid_tables.specs.declared.check.item.Items.{Items}
use Rattle.pid_tables.specs.declared.check.remark.RemarkFold.{RemarkFold}
use Rattle.pid_tables.specs.declared.check.since.SinceFold.{SinceFold}
use Rattle.pid_tables.specs.declared.check.submission.Fit.{Fit}
use Rattle.pid_tables.specs.declared.check.submission.SubmissionFold.{SubmissionFold}
use Rattle.pid_tables.specs.declared.check.submission.Submissions.{Submissions}
use Rattle.pid_tables.specs.declared.check.tables.Part.{Part}
use Rattle.pid_tables.specs.declared.check.tables.Judged.{Judged}
use Rattle.pid_tables.specs.declared.check.schema.Table.TheVariants.{Meta, Account, Item, Submission}
use Rattle.pid_tables.specs.declared.check.schema.Table.TheVariants.{Receipt}
use Rattle.pid_tables.specs.Check.Steps.AuthorSets.{AreAuthorsOf}
use Rattle.pid_tables.specs.Check.Steps.NameSets.{AreNamesOf}
use Rattle.pid_tables.specs.Check.Steps.NamesRead.{IsSubmissionAmong}
use Rattle.pid_tables.specs.Check.Steps.NumberSets.{AreNumbersOf}
use Rattle.pid_tables.specs.Check.Steps.PathSets.{ArePathsOf, IsItemAlone}
use Rattle.pid_tables.specs.Check.Steps.PlaceSets.{ArePlacesOf, IsRemark}
use Rattle.pid_tables.specs.Check.Queries.{query_of}
use Rattle.pid_tables.specs.Check.Shapes.{ShowsRows, ShowsSinces, ShowsTables}
use Rattle.pid_tables.specs.Check.Conditions.{Rows, AreAccounts, AreItems, AreSubmissions}
use Rattle.pid_tables.specs.Check.Conditions.{AreRemarks, AreReceipts, AreSinces}
use Rattle.pid_tables.specs.Check.Conditions.{HasValue, IsAccountRow, IsSinceRow}

-- ---- one table

-- it is true exactly when the rows keep a condition
abbrev pub IsPartJudged : (List Row → Type 0) → List Row → Bool → Type 0
IsPartJudged Are rows good = IsTrue good ↔ Are rows

-- each row is so
abbrev pub AreEach : (Row → Type 0) → List Row → Type 0
AreEach Is rows = (r : Row) → Has rows r → Is r

-- A record whose name begins with Takes: the keeper took these rows.
pub record TakesAccounts (rows : List Row) (it : Accounts) : Type 0 where
  pub good : IsPartJudged (AreEach IsAccountRow) rows it.good
  pub administrator : IsTrue it.administrator ↔ HasValue rows 1 (number 3)
  pub names : AreNamesOf it.names rows

pub record KeepsAccounts (rows : List Row) (it : Accounts) : Type 0 where
  pub names : AreNamesOf it.names rows
  pub good : IsPartJudged AreAccounts rows it.good

pub record TakesItems (rows : List Row) (it : Items) : Type 0 where
  pub good : IsPartJudged (AreEach IsItemAlone) rows it.good
  pub count : it.count ≡ length rows
  pub paths : ArePathsOf it.paths rows

pub record KeepsItems (rows : List Row) (it : Items) : Type 0 where
  pub count : it.count ≡ length rows
  pub paths : ArePathsOf it.paths rows
  pub good : IsPartJudged AreItems rows it.good

pub record TakesSinces (first : SinceFold) (rows : List Row) (it : SinceFold) : Type 0 where
  pub revision : it.revision ≡ first.revision
  pub good : IsPartJudged (AreEach (IsSinceRow it.revision)) rows it.good
  pub paths : ArePathsOf it.paths rows

-- the numbers of changes go with any items that have these paths
abbrev pub GoWith : BTreeSet Path → ℕ → List Row → Bool → Type 0
GoWith paths revision rows good = (items : List Row) → ArePathsOf paths items
    → IsPartJudged (AreSinces revision items) rows good

-- the submissions go with any good accounts that have these names
abbrev pub AreOfAccounts : BTreeSet (String Global) → List Row → Bool → Type 0
AreOfAccounts names rows good = (accounts : List Row) → AreNamesOf names accounts
    → AreAccounts accounts → IsPartJudged (AreSubmissions accounts) rows good

-- they are submissions' rows for each count that is no less than the greatest number
abbrev pub AreFit : BTreeSet (String Global) → List Row → Fit → Type 0
AreFit names rows fit = (count : ℕ) → (IsTrue fit.good × (fit.greatest ≤ count))
    ↔ ((r : Row) → Has rows r → IsSubmissionAmong names count r)

pub record TakesSubmissions (first : SubmissionFold) (rows : List Row)
    (it : SubmissionFold) : Type 0 where
  pub names : it.names.now ≡ first.names.now
  pub count : it.count ≡ length rows
  pub fit : AreFit it.names.now rows it.fit
  pub numbers : AreNumbersOf it.numbers rows
  pub authors : AreAuthorsOf it.authors rows

pub record KeepsSubmissions (names : BTreeSet (String Global)) (rows : List Row)
    (it : Submissions) : Type 0 where
  pub count : it.count ≡ length rows
  pub authors : AreAuthorsOf it.authors rows
  pub good : AreOfAccounts names rows it.good

-- the receipts go with any submissions that have these authors
abbrev pub AreOfAuthors : Authors → List Row → Bool → Type 0
AreOfAuthors authors rows good = (submissions : List Row) → AreAuthorsOf authors submissions
    → IsPartJudged (AreReceipts submissions) rows good

pub record TakesRemarks (rows : List Row) (it : RemarkFold) : Type 0 where
  pub good : IsPartJudged (AreEach IsRemark) rows it.good
  pub places : ArePlacesOf it.places rows

pub record TakesReceipts (first : ReceiptFold) (rows : List Row) (it : ReceiptFold) : Type 0 where
  pub authors : it.authors.now ≡ first.authors.now
  pub good : AreOfAuthors it.authors.now rows it.good

-- ---- several tables

-- schema 1 keeps no numbers of changes
abbrev pub AreDated : Version → ℕ → List Row → List Row → Type 0
AreDated One revision items sinces = Unit {0}
AreDated Two revision items sinces = AreSinces revision items sinces

-- the items and their numbers
pub record ShowsNamed (version : Version) (revision : ℕ) (d : Database) (it : Part) : Type 0 where
  pub items : List Row
  pub sinces : List Row
  pub has_items : ShowsRows d (query_of Item) items
  pub has_sinces : ShowsSinces version d sinces
  pub count : it.count ≡ length items
  pub good : IsTrue it.good ↔ (AreItems items × AreDated version revision items sinces)

-- the submissions, the accounts and the receipts
pub record ShowsSubmitted (d : Database) (it : Part) : Type 0 where
  pub accounts : List Row
  pub submissions : List Row
  pub receipts : List Row
  pub has_accounts : ShowsRows d (query_of Account) accounts
  pub has_submissions : ShowsRows d (query_of Submission) submissions
  pub has_receipts : ShowsRows d (query_of Receipt) receipts
  pub count : it.count ≡ length submissions
  pub good : IsTrue it.good ↔ (AreAccounts accounts × AreSubmissions accounts submissions
      × AreReceipts submissions receipts)

-- the rows of all tables but meta keep their conditions
pub record AreAllGood (version : Version) (revision : ℕ) (t : Rows) : Type 0 where
  pub accounts : AreAccounts t.accounts
  pub items : AreItems t.items
  pub submissions : AreSubmissions t.accounts t.submissions
  pub remarks : AreRemarks t.remarks
  pub receipts : AreReceipts t.submissions t.receipts
  pub sinces : AreDated version revision t.items t.sinces

-- these are the rows of all tables, except for those of meta
pub record ShowsJudged (version : Version) (revision : ℕ) (d : Database)
    (it : Judged) : Type 0 where
  pub rows : Rows
  pub shows : (meta : List Row) → ShowsRows d (query_of Meta) meta
      → ShowsTables version d (record rows { meta = meta })
  pub items : it.items ≡ length rows.items
  pub submissions : it.submissions ≡ length rows.submissions
  pub good : IsTrue it.good ↔ AreAllGood version revision rows
