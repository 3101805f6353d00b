-- The query of each table is refused in no way on tables of the schema.
use Rattle.std.proofs.Common.{List, [], ◌∷◌, codes, refl}
use Rattle.pid_tables.specs.Rows.Steps.Queries.{IsQuery}
use Rattle.pid_tables.specs.declared.rows.schema_version.Version.TheVariants.{Two}
use Rattle.pid_tables.specs.Rows.Schema.{schema_of, item_since}
use Rattle.sqlite.specs.Table.{Table as Stored}
use Rattle.sqlite_schema.specs.declared.schema.Index.{Index}
use Rattle.pid_tables.proofs.OfRows.QueryTexts.{by_key}
use Rattle.pid_tables.specs.declared.check.schema.Table.{Table}
use Rattle.pid_tables.specs.declared.check.schema.Table.TheVariants.{Meta, Account, Item, Submission, Remark, Receipt, Since}
use Rattle.pid_tables.specs.Check.Queries.{query_of}
use Rattle.pid_tables.proofs.OfCheck.WholeTexts.{two_columns, submission_columns, submission_names, remark_columns, receipt_columns, meta_is, account_is, item_is, submission_is, remark_is, receipt_is, since_is, meta_alone, account_alone, item_alone, submission_alone, remark_alone, receipt_alone, since_alone}

abbrev more : List Stored
more = item_since ∷ []

abbrev indexes : List Index
indexes = (schema_of Two).indexes

pub is_query : (table : Table) → IsQuery (schema_of Two) (query_of table) []
is_query Meta = by_key (schema_of Two) (query_of Meta) [] 0 [] two_columns (codes "label" ∷ codes "value" ∷ []) (meta_alone more indexes []) (meta_is more indexes []) refl
is_query Account = by_key (schema_of Two) (query_of Account) [] 2 [] two_columns (codes "name" ∷ codes "rank" ∷ []) (account_alone more indexes []) (account_is more indexes []) refl
is_query Item = by_key (schema_of Two) (query_of Item) [] 4 [] two_columns (codes "path" ∷ codes "name" ∷ []) (item_alone more indexes []) (item_is more indexes []) refl
is_query Submission = by_key (schema_of Two) (query_of Submission) [] 6 [] submission_columns submission_names (submission_alone more indexes []) (submission_is more indexes []) refl
is_query Remark = by_key (schema_of Two) (query_of Remark) [] 7 [] remark_columns (codes "num" ∷ codes "seq" ∷ codes "author" ∷ codes "body" ∷ []) (remark_alone more indexes []) (remark_is more indexes []) refl
is_query Receipt = by_key (schema_of Two) (query_of Receipt) [] 9 [] receipt_columns (codes "account" ∷ codes "token" ∷ codes "kind" ∷ codes "a" ∷ codes "b" ∷ codes "c" ∷ []) (receipt_alone more indexes []) (receipt_is more indexes []) refl
is_query Since = by_key (schema_of Two) (query_of Since) [] 11 [] two_columns (codes "path" ∷ codes "since" ∷ []) (since_alone [] indexes []) (since_is [] indexes []) refl
