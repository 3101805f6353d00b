-- Each schema has its tables, and the empty one has none.
use Rattle.std.proofs.Common.{◌≡◌, ℕ, List, [], ◌∷◌, ◌++◌, inl, inr, refl, sym, subst, Ok, Err, Result}
use Rattle.sqlite.specs.Listing.{understood, listing_schema}
use Rattle.sqlite.specs.Schema.{Schema}
use Rattle.sqlite.specs.Table.{Table as Stored}
use Rattle.sqlite.proofs.Callers.{IsPlain}
use Rattle.sqlite_schema.specs.declared.schema.Index.{Index}
use Rattle.sqlite_schema.specs.declared.schema.View.{View}
use Rattle.sqlite_resolve.specs.declared.compiled.Compiled.{Compiled}
use Rattle.sqlite_resolve.specs.declared.error.CompileError.{CompileError}
use Rattle.sqlite_resolve.specs.declared.error.CompileError.TheVariants.{NoSuchTable}
use Rattle.sqlite_tied.specs.Compute.{everything}
use Rattle.sqlite_rules.specs.Lists.{Has}
use Rattle.pid_tables.specs.declared.rows.schema_version.Version.{Version}
use Rattle.pid_tables.specs.declared.rows.schema_version.Version.TheVariants.{One, Two}
use Rattle.pid_tables.specs.Rows.Schema.{schema_of, no_schema, item_since, more_tables}
use Rattle.pid_tables.specs.declared.check.schema.Table.{Table}
use Rattle.pid_tables.specs.declared.check.schema.Table.TheVariants.{Meta, Account, Item, Submission, Remark, Receipt, Since}
use Rattle.pid_tables.specs.Check.Queries.{query_of, any_since}
use Rattle.pid_tables.specs.Check.Shapes.{table_texts, CanBeAsked, HasEachTable, HasSomeTable, HasNoTable, HasTables, IsMadeFirst}
use Rattle.pid_tables.proofs.OfCheck.Asking.{unasked}
use Rattle.pid_tables.proofs.OfCheck.WholeTexts.{six_first, meta_is, account_is, item_is, submission_is, remark_is, receipt_is, since_is}

asked : (r : Result Compiled CompileError) → IsPlain r → (c : Compiled) × (r ≡ Ok c)
asked (Ok c) plain = (c, refl)
asked (Err e) plain = absurd plain

text_asked : (schema : Schema) (text : List ℕ) → IsPlain (understood schema text) → (other : List ℕ) → other ≡ text → CanBeAsked schema other
text_asked schema text plain other same = subst (CanBeAsked schema) (sym same) (asked (understood schema text) plain)

-- ---- six tables first

six_asked : (others : List Stored) (indexes : List Index) (views : List View) → HasEachTable (six_first others indexes views)
six_asked others indexes views text (inl same) = text_asked _ _ (meta_is others indexes views).plain text same
six_asked others indexes views text (inr (inl same)) = text_asked _ _ (account_is others indexes views).plain text same
six_asked others indexes views text (inr (inr (inl same))) = text_asked _ _ (item_is others indexes views).plain text same
six_asked others indexes views text (inr (inr (inr (inl same)))) = text_asked _ _ (submission_is others indexes views).plain text same
six_asked others indexes views text (inr (inr (inr (inr (inl same))))) = text_asked _ _ (remark_is others indexes views).plain text same
six_asked others indexes views text (inr (inr (inr (inr (inr (inl same)))))) = text_asked _ _ (receipt_is others indexes views).plain text same
six_asked others indexes views text (inr (inr (inr (inr (inr (inr none)))))) = absurd none

-- a schema whose tables were made first has the six in front
pub as_six : (version : Version) (schema : Schema) (first : IsMadeFirst version schema) → schema ≡ six_first (more_tables version ++ first.0) schema.indexes schema.views
as_six version schema first = λ i. record { tables = first.1 i; indexes = schema.indexes; views = schema.views }

pub complete_first : (version : Version) (schema : Schema) → IsMadeFirst version schema → HasEachTable schema
complete_first version schema first = subst HasEachTable (sym (as_six version schema first)) (six_asked _ schema.indexes schema.views)

any_plain : (others : List Stored) (indexes : List Index) (views : List View) → IsPlain (understood (six_first (item_since ∷ others) indexes views) any_since)
unfolding understood everything
any_plain others indexes views = (refl, refl)

-- where item_since is the seventh, all tables of schema 2 are there
pub seven_first : (schema : Schema) → IsMadeFirst Two schema → HasTables Two schema
seven_first schema first =
    let is = sym (as_six Two schema first) in (
      complete_first Two schema first,
      subst (λ s. CanBeAsked s any_since) is (asked _ (any_plain first.0 schema.indexes schema.views)),
      subst (λ s. CanBeAsked s (query_of Since)) is (asked _ (since_is first.0 schema.indexes schema.views).plain),
    )

-- ---- the schemas themselves

pub made_first : (version : Version) → IsMadeFirst version (schema_of version)
made_first One = ([], refl)
made_first Two = ([], refl)

none_named : understood (schema_of One) any_since ≡ Err NoSuchTable
unfolding understood everything listing_schema
none_named = refl

pub has_tables : (version : Version) → HasTables version (schema_of version)
has_tables One = (complete_first One (schema_of One) (made_first One), unasked (schema_of One) any_since NoSuchTable none_named)
has_tables Two = seven_first (schema_of Two) (made_first Two)

pub complete : (version : Version) (schema : Schema) → schema ≡ schema_of version → HasEachTable schema
complete version schema has = subst HasEachTable (sym has) (complete_first version (schema_of version) (made_first version))

-- each is there, so some is
pub each_some : (schema : Schema) → HasEachTable schema → HasSomeTable schema
each_some schema each = (_, inl refl, each _ (inl refl))

pub tables_each : (version : Version) (schema : Schema) → HasTables version schema → HasEachTable schema
tables_each One schema has = has.0
tables_each Two schema has = has.0

-- ---- a database without tables has none of them

table_none : (table : Table) → understood no_schema (query_of table) ≡ Err NoSuchTable
unfolding understood everything listing_schema
table_none Meta = refl
table_none Account = refl
table_none Item = refl
table_none Submission = refl
table_none Remark = refl
table_none Receipt = refl
table_none Since = refl

not_asked : (table : Table) (other : List ℕ) → other ≡ query_of table → CanBeAsked no_schema other → ⊥
not_asked table other same asked = unasked no_schema (query_of table) NoSuchTable (table_none table) (subst (CanBeAsked no_schema) same asked)

none_there : (text : List ℕ) → Has (table_texts Two) text → CanBeAsked no_schema text → ⊥
none_there text (inl same) = not_asked Meta text same
none_there text (inr (inl same)) = not_asked Account text same
none_there text (inr (inr (inl same))) = not_asked Item text same
none_there text (inr (inr (inr (inl same)))) = not_asked Submission text same
none_there text (inr (inr (inr (inr (inl same))))) = not_asked Remark text same
none_there text (inr (inr (inr (inr (inr (inl same)))))) = not_asked Receipt text same
none_there text (inr (inr (inr (inr (inr (inr (inl same))))))) = not_asked Since text same
none_there text (inr (inr (inr (inr (inr (inr (inr none))))))) = absurd none

pub bare : HasNoTable no_schema
bare some = none_there some.0 some.1 some.2
