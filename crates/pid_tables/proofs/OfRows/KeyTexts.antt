-- What the statements by keys mean in each schema.
use Rattle.std.proofs.Common.{◌≡◌, ℕ, pos, false, List, [], ◌∷◌, codes, refl}
use Rattle.sqlite.specs.declared.types.Value.TheVariants.{Null, Int, Text}
use Rattle.sqlite.specs.Term.{Term, lit, col}
use Rattle.sqlite.specs.Listing.{understood, reads_listing}
use Rattle.sqlite_tied.specs.Compute.{everything}
use Rattle.pid_tables.specs.declared.rows.schema_version.Version.{Version}
use Rattle.pid_tables.specs.declared.rows.schema_version.Version.TheVariants.{Two}
use Rattle.pid_tables.specs.Rows.Schema.{schema_of}
use Rattle.pid_tables.proofs.OfRows.Statements.{equals, IsSelect, IsInsert, IsUpdate, IsDelete, SelectsAlone, select_alone, insert_alone, update_alone, delete_alone}
use Rattle.pid_tables.proofs.OfRows.StatementTexts.{select_meta, insert_meta, update_meta, select_account, insert_account, update_account, select_item, insert_item, update_item, delete_item, select_submission, insert_submission, update_submission, withdraw_submission, insert_remark, select_receipt, insert_receipt, insert_since, update_since}

-- the key in the first column behind the rowid, in the rowid, and in the first two columns
abbrev pub by_first : List Term
by_first = equals 1 0 ∷ []

abbrev pub by_rowid : List Term
by_rowid = equals 0 0 ∷ []

abbrev pub by_both : List Term
by_both = equals 1 0 ∷ equals 2 1 ∷ []

abbrev pub pair_terms : List Term
pair_terms = lit Null ∷ col 0 0 ∷ col 0 1 ∷ []

abbrev pub pair_change : List Term
pair_change = col 1 0 ∷ col 1 1 ∷ col 0 1 ∷ []

pub select_meta_alone : (version : Version) → SelectsAlone (schema_of version) 0 by_first (col 1 2 ∷ []) select_meta (codes "value" ∷ []) 1
unfolding understood everything
select_meta_alone version = refl

select_meta_unlisted : (version : Version) → reads_listing (schema_of version) select_meta ≡ false
unfolding understood everything
select_meta_unlisted version = refl

pub select_meta_is : (version : Version) → IsSelect (schema_of version) 0 by_first (col 1 2 ∷ []) select_meta (codes "value" ∷ [])
select_meta_is version = select_alone (schema_of version) 0 by_first (col 1 2 ∷ []) select_meta (codes "value" ∷ []) 1 (select_meta_alone version) (select_meta_unlisted version)

pub insert_meta_is : (version : Version) → IsInsert (schema_of version) 0 pair_terms 3 insert_meta
unfolding understood everything
insert_meta_is version = insert_alone (schema_of version) 0 0 [] pair_terms 3 insert_meta 2 refl

pub update_meta_is : (version : Version) → IsUpdate (schema_of version) 0 0 by_first pair_change update_meta
unfolding understood everything
update_meta_is version = update_alone (schema_of version) 0 0 by_first pair_change 0 update_meta 2 refl

pub select_account_alone : (version : Version) → SelectsAlone (schema_of version) 2 by_first (col 1 2 ∷ []) select_account (codes "rank" ∷ []) 1
unfolding understood everything
select_account_alone version = refl

select_account_unlisted : (version : Version) → reads_listing (schema_of version) select_account ≡ false
unfolding understood everything
select_account_unlisted version = refl

pub select_account_is : (version : Version) → IsSelect (schema_of version) 2 by_first (col 1 2 ∷ []) select_account (codes "rank" ∷ [])
select_account_is version = select_alone (schema_of version) 2 by_first (col 1 2 ∷ []) select_account (codes "rank" ∷ []) 1 (select_account_alone version) (select_account_unlisted version)

pub insert_account_is : (version : Version) → IsInsert (schema_of version) 1 pair_terms 3 insert_account
unfolding understood everything
insert_account_is version = insert_alone (schema_of version) 1 0 [] pair_terms 3 insert_account 2 refl

pub update_account_is : (version : Version) → IsUpdate (schema_of version) 1 2 by_first pair_change update_account
unfolding understood everything
update_account_is version = update_alone (schema_of version) 1 2 by_first pair_change 0 update_account 2 refl

pub select_item_alone : (version : Version) → SelectsAlone (schema_of version) 4 by_first (col 1 2 ∷ []) select_item (codes "name" ∷ []) 1
unfolding understood everything
select_item_alone version = refl

select_item_unlisted : (version : Version) → reads_listing (schema_of version) select_item ≡ false
unfolding understood everything
select_item_unlisted version = refl

pub select_item_is : (version : Version) → IsSelect (schema_of version) 4 by_first (col 1 2 ∷ []) select_item (codes "name" ∷ [])
select_item_is version = select_alone (schema_of version) 4 by_first (col 1 2 ∷ []) select_item (codes "name" ∷ []) 1 (select_item_alone version) (select_item_unlisted version)

pub insert_item_is : (version : Version) → IsInsert (schema_of version) 2 pair_terms 3 insert_item
unfolding understood everything
insert_item_is version = insert_alone (schema_of version) 2 0 [] pair_terms 3 insert_item 2 refl

pub update_item_is : (version : Version) → IsUpdate (schema_of version) 2 4 by_first pair_change update_item
unfolding understood everything
update_item_is version = update_alone (schema_of version) 2 4 by_first pair_change 0 update_item 2 refl

pub delete_item_is : (version : Version) → IsDelete (schema_of version) 2 4 by_first delete_item
unfolding understood everything
delete_item_is version = delete_alone (schema_of version) 2 4 by_first [] 0 delete_item 1 refl

abbrev pub submission_columns : List Term
submission_columns = col 1 2 ∷ col 1 3 ∷ col 1 4 ∷ col 1 5 ∷ col 1 6 ∷ col 1 7 ∷ col 1 8 ∷ col 1 9 ∷ []

abbrev pub submission_terms : List Term
submission_terms = col 0 0 ∷ lit Null ∷ col 0 1 ∷ col 0 2 ∷ col 0 3 ∷ col 0 4 ∷ col 0 5 ∷ lit (Int (pos 0)) ∷ lit (Text []) ∷ lit (Text []) ∷ []

abbrev pub submission_change : List Term
submission_change = col 1 0 ∷ lit Null ∷ col 1 2 ∷ col 1 3 ∷ col 1 4 ∷ col 1 5 ∷ col 1 6 ∷ col 0 1 ∷ col 0 2 ∷ col 0 3 ∷ []

abbrev pub submission_names : List (List ℕ)
submission_names = codes "author" ∷ codes "path" ∷ codes "form" ∷ codes "name" ∷ codes "note" ∷ codes "state" ∷ codes "decider" ∷ codes "reason" ∷ []

pub select_submission_alone : (version : Version) → SelectsAlone (schema_of version) 6 by_rowid submission_columns select_submission submission_names 1
unfolding understood everything
select_submission_alone version = refl

select_submission_unlisted : (version : Version) → reads_listing (schema_of version) select_submission ≡ false
unfolding understood everything
select_submission_unlisted version = refl

pub select_submission_is : (version : Version) → IsSelect (schema_of version) 6 by_rowid submission_columns select_submission submission_names
select_submission_is version = select_alone (schema_of version) 6 by_rowid submission_columns select_submission submission_names 1 (select_submission_alone version) (select_submission_unlisted version)

pub insert_submission_is : (version : Version) → IsInsert (schema_of version) 3 submission_terms 10 insert_submission
unfolding understood everything
insert_submission_is version = insert_alone (schema_of version) 3 0 [] submission_terms 10 insert_submission 6 refl

pub update_submission_is : (version : Version) → IsUpdate (schema_of version) 3 6 by_rowid submission_change update_submission
unfolding understood everything
update_submission_is version = update_alone (schema_of version) 3 6 by_rowid submission_change 0 update_submission 4 refl

abbrev pub withdrawal : List Term
withdrawal = col 1 0 ∷ lit Null ∷ col 1 2 ∷ col 1 3 ∷ col 1 4 ∷ col 1 5 ∷ col 1 6 ∷ lit (Int (pos 3)) ∷ col 1 2 ∷ lit (Text []) ∷ []

pub withdraw_submission_is : (version : Version) → IsUpdate (schema_of version) 3 6 by_rowid withdrawal withdraw_submission
unfolding understood everything
withdraw_submission_is version = update_alone (schema_of version) 3 6 by_rowid withdrawal 0 withdraw_submission 1 refl

abbrev pub remark_terms : List Term
remark_terms = lit Null ∷ col 0 0 ∷ col 0 1 ∷ col 0 2 ∷ col 0 3 ∷ []

pub insert_remark_is : (version : Version) → IsInsert (schema_of version) 4 remark_terms 5 insert_remark
unfolding understood everything
insert_remark_is version = insert_alone (schema_of version) 4 0 [] remark_terms 5 insert_remark 4 refl

abbrev pub receipt_columns : List Term
receipt_columns = col 1 3 ∷ col 1 4 ∷ col 1 5 ∷ col 1 6 ∷ []

abbrev pub receipt_terms : List Term
receipt_terms = lit Null ∷ col 0 0 ∷ col 0 1 ∷ col 0 2 ∷ col 0 3 ∷ col 0 4 ∷ col 0 5 ∷ []

pub select_receipt_alone : (version : Version) → SelectsAlone (schema_of version) 9 by_both receipt_columns select_receipt (codes "kind" ∷ codes "a" ∷ codes "b" ∷ codes "c" ∷ []) 2
unfolding understood everything
select_receipt_alone version = refl

select_receipt_unlisted : (version : Version) → reads_listing (schema_of version) select_receipt ≡ false
unfolding understood everything
select_receipt_unlisted version = refl

pub select_receipt_is : (version : Version) → IsSelect (schema_of version) 9 by_both receipt_columns select_receipt (codes "kind" ∷ codes "a" ∷ codes "b" ∷ codes "c" ∷ [])
select_receipt_is version = select_alone (schema_of version) 9 by_both receipt_columns select_receipt (codes "kind" ∷ codes "a" ∷ codes "b" ∷ codes "c" ∷ []) 2 (select_receipt_alone version) (select_receipt_unlisted version)

pub insert_receipt_is : (version : Version) → IsInsert (schema_of version) 5 receipt_terms 7 insert_receipt
unfolding understood everything
insert_receipt_is version = insert_alone (schema_of version) 5 0 [] receipt_terms 7 insert_receipt 6 refl

pub insert_since_is : IsInsert (schema_of Two) 6 pair_terms 3 insert_since
unfolding understood everything
insert_since_is = insert_alone (schema_of Two) 6 0 [] pair_terms 3 insert_since 2 refl

pub update_since_is : IsUpdate (schema_of Two) 6 11 by_first pair_change update_since
unfolding understood everything
update_since_is = update_alone (schema_of Two) 6 11 by_first pair_change 0 update_since 2 refl
