-- What queries by keys answer.
use Rattle.std.proofs.Common.{◌≡◌, ℕ, true, List, [], ◌∷◌, Ok, Err, Result, IfOk, IfErr, MatchResult, slice_get, refl}
use Rattle.std.specs.Prelude.{option_map}
use Rattle.sqlite.specs.declared.types.Value.TheVariants.{Text}
use Rattle.sqlite.specs.Order.{Row}
use Rattle.sqlite.specs.State.{State, Shown}
use Rattle.pid_moderation.specs.Items.{name_at}
use Rattle.pid_moderation.specs.Views.{Views}
use Rattle.pid_tables.specs.declared.rows.schema_version.Version.{Version}
use Rattle.pid_tables.specs.Rows.Schema.{schema_of, meta, account, item, submission, receipt}
use Rattle.pid_tables.specs.Rows.TableRows.{number, meta_row, account_row, item_row, submission_row, receipt_row}
use Rattle.pid_tables.specs.Rows.Answers.{standing_row}
use Rattle.pid_tables.specs.Rows.Steps.Answers.{value_row, rank_row, name_row, reply_row}
use Rattle.pid_tables.specs.Rows.Shows.{AreViews, Counts, Numbers, ShowsKeeping, Shows, counts_of, labels_of, receipt_in}
use Rattle.pid_moderation.specs.Submissions.{standing_in}
use Rattle.pid_tables.specs.declared.rows.fault.TableFault.{TableFault}
use Rattle.pid_tables.specs.Rows.Causes.{IsCaused, IsReadable}
use Rattle.pid_tables.specs.Rows.Leaves.{AtRest}
use Rattle.pid_tables.proofs.OfRows.MapLemmas.{map_found}
use Rattle.pid_tables.proofs.OfRows.Keys.{meta_found, account_found, item_found, submission_found, receipt_found, meta_plain, account_plain, item_plain, submission_plain, receipt_plain}
use Rattle.pid_tables.proofs.OfRows.KeyTexts.{by_first, by_rowid, by_both, select_meta_is, select_account_is, select_item_is, select_submission_is, select_receipt_is}
use Rattle.pid_tables.proofs.OfRows.StatementTexts.{select_meta, select_account, select_item, select_submission, select_receipt}
use Rattle.pid_tables.proofs.OfRows.ReadLemmas.{shown_passes}

module _ {version : Version} {numbers : Numbers} (old new : State) (c : Counts) (v : Views) (shows : ShowsKeeping version c numbers old.now v) (answer : List Row) where
  pub value_found : (label : List ℕ) → Shown select_meta (Text label ∷ []) old new answer → slice_get answer 0 ≡ option_map value_row (labels_of version c numbers.revision label)
  value_found label h = map_found meta_row by_first _ meta_found (labels_of version c numbers.revision) label (schema_of version) meta 0 refl meta_plain old new shows.schema shows.meta select_meta _ _ (select_meta_is version) value_row (λ id v. refl) answer h

  pub rank_found : (name : List ℕ) → Shown select_account (Text name ∷ []) old new answer → slice_get answer 0 ≡ option_map rank_row (v.rank name)
  rank_found name h = map_found account_row by_first _ account_found v.rank name (schema_of version) account 1 refl account_plain old new shows.schema shows.accounts select_account _ _ (select_account_is version) rank_row (λ id v. refl) answer h

  pub name_found : (path : List ℕ) → Shown select_item (Text path ∷ []) old new answer → slice_get answer 0 ≡ option_map name_row (name_at path v.items)
  name_found path h = map_found item_row by_first _ item_found (λ p. name_at p v.items) path (schema_of version) item 2 refl item_plain old new shows.schema shows.items select_item _ _ (select_item_is version) name_row (λ id v. refl) answer h

  pub standing_found : (n : ℕ) → Shown select_submission (number n ∷ []) old new answer → slice_get answer 0 ≡ option_map standing_row (standing_in v n)
  standing_found n h = map_found submission_row by_rowid _ submission_found (standing_in v) n (schema_of version) submission 3 refl submission_plain old new shows.schema shows.submissions select_submission _ _ (select_submission_is version) standing_row (λ id v. refl) answer h

  pub reply_found : (who token : List ℕ) → Shown select_receipt (Text who ∷ Text token ∷ []) old new answer → slice_get answer 0 ≡ option_map reply_row (v.kept who token)
  reply_found who token h = map_found receipt_row by_both _ receipt_found (receipt_in v) (who, token) (schema_of version) receipt 5 refl receipt_plain old new shows.schema shows.receipts select_receipt _ _ (select_receipt_is version) reply_row (λ id v. refl) answer h

-- the same, read in a transaction of its own on tables at rest
pub rows_at_rest : {S : Type 0} (state : S → State) (old : S) (v : Views) (sql : List ℕ) (params : Row) (rows : List Row) (P : Type 0) → AtRest (state old) v
    → ((mid : State) → Shows (record (state old) { in_transaction = true }).now v → Shown sql params (record (state old) { in_transaction = true }) mid rows → P)
    → (mid : S) × Shown sql params (record (state old) { in_transaction = true }) (state mid) rows → P
rows_at_rest state old v sql params rows P rest told h = told (state h.0) (rest.shows (shown_passes sql params (record (state old) { in_transaction = true }) (state h.0) rows h.1).was_open) h.1

-- whatever the read answers
pub at_rest : {S X : Type 0} (state : S → State) (old : S) (new : State) (v : Views) (sql : List ℕ) (params : Row) (r : Result X TableFault) (rows : X → List Row) (P : X → Type 0) → AtRest (state old) v
    → ((mid : State) (x : X) → Shows (record (state old) { in_transaction = true }).now v → Shown sql params (record (state old) { in_transaction = true }) mid (rows x) → P x)
    → IfOk r (λ x. (mid : S) × Shown sql params (record (state old) { in_transaction = true }) (state mid) (rows x)) → IfErr r (IsCaused (state old) new)
    → MatchResult r P (λ fault. IsReadable v → IsCaused (state old) new fault)
at_rest state old new v sql params (Ok x) rows P rest told h caused = rows_at_rest state old v sql params (rows x) (P x) rest (λ mid. told mid x) h
at_rest state old new v sql params (Err e) rows P rest told h caused = λ readable. caused

-- the first row that a read by a key answers, in a transaction of its own on tables at rest
module _ {S : Type 0} (state : S → State) (old : S) (v : Views) (rest : AtRest (state old) v) (rows : List Row) where
  abbrev pub Answers : List ℕ → Row → Type 0
  Answers sql params = (mid : S) × Shown sql params (record (state old) { in_transaction = true }) (state mid) rows

  pub rank_first : (name : List ℕ) → Answers select_account (Text name ∷ []) → slice_get rows 0 ≡ option_map rank_row (v.rank name)
  rank_first name h = rows_at_rest state old v select_account _ rows (slice_get rows 0 ≡ option_map rank_row (v.rank name)) rest (λ mid shows h. rank_found _ mid (counts_of v) v shows rows name h) h

  pub name_first : (path : List ℕ) → Answers select_item (Text path ∷ []) → slice_get rows 0 ≡ option_map name_row (name_at path v.items)
  name_first path h = rows_at_rest state old v select_item _ rows (slice_get rows 0 ≡ option_map name_row (name_at path v.items)) rest (λ mid shows h. name_found _ mid (counts_of v) v shows rows path h) h

  pub standing_first : (n : ℕ) → Answers select_submission (number n ∷ []) → AreViews v × (slice_get rows 0 ≡ option_map standing_row (standing_in v n))
  standing_first n h = rows_at_rest state old v select_submission _ rows (AreViews v × (slice_get rows 0 ≡ option_map standing_row (standing_in v n))) rest (λ mid shows h. (shows.views, standing_found _ mid (counts_of v) v shows rows n h)) h

  pub reply_first : (who token : List ℕ) → Answers select_receipt (Text who ∷ Text token ∷ []) → slice_get rows 0 ≡ option_map reply_row (v.kept who token)
  reply_first who token h = rows_at_rest state old v select_receipt _ rows (slice_get rows 0 ≡ option_map reply_row (v.kept who token)) rest (λ mid shows h. reply_found _ mid (counts_of v) v shows rows who token h) h
