-- What the queries of whole tables mean where the tables were made first, whatever stands behind them.
use Rattle.std.proofs.Common.{◌≡◌, ℕ, false, List, [], ◌∷◌, codes, refl}
use Rattle.sqlite.specs.Term.{Term, col}
use Rattle.sqlite.specs.Listing.{understood, reads_listing}
use Rattle.sqlite.specs.Schema.{Schema}
use Rattle.sqlite.specs.Table.{Table as Stored}
use Rattle.sqlite_schema.specs.declared.schema.Index.{Index}
use Rattle.sqlite_schema.specs.declared.schema.View.{View}
use Rattle.sqlite_tied.specs.Compute.{everything}
use Rattle.pid_tables.specs.Rows.Schema.{meta, account, item, submission, remark, receipt, item_since}
use Rattle.pid_tables.proofs.OfRows.Statements.{IsSelect, SelectsAlone, select_alone}
use Rattle.pid_tables.specs.declared.check.schema.Table.TheVariants.{Meta, Account, Item, Submission, Remark, Receipt, Since}
use Rattle.pid_tables.specs.Check.Queries.{query_of}

-- the first columns of a table that has a rowid of its own
abbrev pub two_columns : List Term
two_columns = col 1 1 ∷ col 1 2 ∷ []

abbrev pub submission_columns : List Term
submission_columns = col 1 0 ∷ col 1 2 ∷ col 1 3 ∷ col 1 4 ∷ col 1 5 ∷ col 1 6 ∷ col 1 7 ∷ col 1 8 ∷ col 1 9 ∷ []

abbrev pub remark_columns : List Term
remark_columns = col 1 1 ∷ col 1 2 ∷ col 1 3 ∷ col 1 4 ∷ []

abbrev pub receipt_columns : List Term
receipt_columns = col 1 1 ∷ col 1 2 ∷ col 1 3 ∷ col 1 4 ∷ col 1 5 ∷ col 1 6 ∷ []

abbrev pub submission_names : List (List ℕ)
submission_names = codes "num" ∷ codes "author" ∷ codes "path" ∷ codes "form" ∷ codes "name" ∷ codes "note" ∷ codes "state" ∷ codes "decider" ∷ codes "reason" ∷ []

-- the six tables first
abbrev pub six_first : List Stored → List Index → List View → Schema
six_first others indexes views = record { tables = meta ∷ account ∷ item ∷ submission ∷ remark ∷ receipt ∷ others; indexes = indexes; views = views }

pub meta_alone : (others : List Stored) (indexes : List Index) (views : List View) → SelectsAlone (six_first others indexes views) 0 [] two_columns (query_of Meta) (codes "label" ∷ codes "value" ∷ []) 0
unfolding understood everything
meta_alone others indexes views = refl

meta_unlisted : (others : List Stored) (indexes : List Index) (views : List View) → reads_listing (six_first others indexes views) (query_of Meta) ≡ false
unfolding understood everything
meta_unlisted others indexes views = refl

pub meta_is : (others : List Stored) (indexes : List Index) (views : List View) → IsSelect (six_first others indexes views) 0 [] two_columns (query_of Meta) (codes "label" ∷ codes "value" ∷ [])
meta_is others indexes views = select_alone (six_first others indexes views) 0 [] two_columns (query_of Meta) (codes "label" ∷ codes "value" ∷ []) 0 (meta_alone others indexes views) (meta_unlisted others indexes views)

pub account_alone : (others : List Stored) (indexes : List Index) (views : List View) → SelectsAlone (six_first others indexes views) 2 [] two_columns (query_of Account) (codes "name" ∷ codes "rank" ∷ []) 0
unfolding understood everything
account_alone others indexes views = refl

account_unlisted : (others : List Stored) (indexes : List Index) (views : List View) → reads_listing (six_first others indexes views) (query_of Account) ≡ false
unfolding understood everything
account_unlisted others indexes views = refl

pub account_is : (others : List Stored) (indexes : List Index) (views : List View) → IsSelect (six_first others indexes views) 2 [] two_columns (query_of Account) (codes "name" ∷ codes "rank" ∷ [])
account_is others indexes views = select_alone (six_first others indexes views) 2 [] two_columns (query_of Account) (codes "name" ∷ codes "rank" ∷ []) 0 (account_alone others indexes views) (account_unlisted others indexes views)

pub item_alone : (others : List Stored) (indexes : List Index) (views : List View) → SelectsAlone (six_first others indexes views) 4 [] two_columns (query_of Item) (codes "path" ∷ codes "name" ∷ []) 0
unfolding understood everything
item_alone others indexes views = refl

item_unlisted : (others : List Stored) (indexes : List Index) (views : List View) → reads_listing (six_first others indexes views) (query_of Item) ≡ false
unfolding understood everything
item_unlisted others indexes views = refl

pub item_is : (others : List Stored) (indexes : List Index) (views : List View) → IsSelect (six_first others indexes views) 4 [] two_columns (query_of Item) (codes "path" ∷ codes "name" ∷ [])
item_is others indexes views = select_alone (six_first others indexes views) 4 [] two_columns (query_of Item) (codes "path" ∷ codes "name" ∷ []) 0 (item_alone others indexes views) (item_unlisted others indexes views)

pub submission_alone : (others : List Stored) (indexes : List Index) (views : List View) → SelectsAlone (six_first others indexes views) 6 [] submission_columns (query_of Submission) submission_names 0
unfolding understood everything
submission_alone others indexes views = refl

submission_unlisted : (others : List Stored) (indexes : List Index) (views : List View) → reads_listing (six_first others indexes views) (query_of Submission) ≡ false
unfolding understood everything
submission_unlisted others indexes views = refl

pub submission_is : (others : List Stored) (indexes : List Index) (views : List View) → IsSelect (six_first others indexes views) 6 [] submission_columns (query_of Submission) submission_names
submission_is others indexes views = select_alone (six_first others indexes views) 6 [] submission_columns (query_of Submission) submission_names 0 (submission_alone others indexes views) (submission_unlisted others indexes views)

pub remark_alone : (others : List Stored) (indexes : List Index) (views : List View) → SelectsAlone (six_first others indexes views) 7 [] remark_columns (query_of Remark) (codes "num" ∷ codes "seq" ∷ codes "author" ∷ codes "body" ∷ []) 0
unfolding understood everything
remark_alone others indexes views = refl

remark_unlisted : (others : List Stored) (indexes : List Index) (views : List View) → reads_listing (six_first others indexes views) (query_of Remark) ≡ false
unfolding understood everything
remark_unlisted others indexes views = refl

pub remark_is : (others : List Stored) (indexes : List Index) (views : List View) → IsSelect (six_first others indexes views) 7 [] remark_columns (query_of Remark) (codes "num" ∷ codes "seq" ∷ codes "author" ∷ codes "body" ∷ [])
remark_is others indexes views = select_alone (six_first others indexes views) 7 [] remark_columns (query_of Remark) (codes "num" ∷ codes "seq" ∷ codes "author" ∷ codes "body" ∷ []) 0 (remark_alone others indexes views) (remark_unlisted others indexes views)

pub receipt_alone : (others : List Stored) (indexes : List Index) (views : List View) → SelectsAlone (six_first others indexes views) 9 [] receipt_columns (query_of Receipt) (codes "account" ∷ codes "token" ∷ codes "kind" ∷ codes "a" ∷ codes "b" ∷ codes "c" ∷ []) 0
unfolding understood everything
receipt_alone others indexes views = refl

receipt_unlisted : (others : List Stored) (indexes : List Index) (views : List View) → reads_listing (six_first others indexes views) (query_of Receipt) ≡ false
unfolding understood everything
receipt_unlisted others indexes views = refl

pub receipt_is : (others : List Stored) (indexes : List Index) (views : List View) → IsSelect (six_first others indexes views) 9 [] receipt_columns (query_of Receipt) (codes "account" ∷ codes "token" ∷ codes "kind" ∷ codes "a" ∷ codes "b" ∷ codes "c" ∷ [])
receipt_is others indexes views = select_alone (six_first others indexes views) 9 [] receipt_columns (query_of Receipt) (codes "account" ∷ codes "token" ∷ codes "kind" ∷ codes "a" ∷ codes "b" ∷ codes "c" ∷ []) 0 (receipt_alone others indexes views) (receipt_unlisted others indexes views)

-- the seventh behind them
pub since_alone : (others : List Stored) (indexes : List Index) (views : List View) → SelectsAlone (six_first (item_since ∷ others) indexes views) 11 [] two_columns (query_of Since) (codes "path" ∷ codes "since" ∷ []) 0
unfolding understood everything
since_alone others indexes views = refl

since_unlisted : (others : List Stored) (indexes : List Index) (views : List View) → reads_listing (six_first (item_since ∷ others) indexes views) (query_of Since) ≡ false
unfolding understood everything
since_unlisted others indexes views = refl

pub since_is : (others : List Stored) (indexes : List Index) (views : List View) → IsSelect (six_first (item_since ∷ others) indexes views) 11 [] two_columns (query_of Since) (codes "path" ∷ codes "since" ∷ [])
since_is others indexes views = select_alone (six_first (item_since ∷ others) indexes views) 11 [] two_columns (query_of Since) (codes "path" ∷ codes "since" ∷ []) 0 (since_alone others indexes views) (since_unlisted others indexes views)
