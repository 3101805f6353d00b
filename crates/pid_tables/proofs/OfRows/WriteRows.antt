-- What each statement that writes leaves of what the tables show.
use Rattle.std.proofs.Common.{◌≡◌, ℕ, ◌+◌, pos, List, [], ◌∷◌, ◌++◌, length, true, false, not, None, Some, Option, Ok, IsSome, refl, ap, ◌∙◌, codes, arith}
use Rattle.std.specs.Prelude.{option_map}
use Rattle.sqlite.specs.declared.types.Value.TheVariants.{Null, Int, Text}
use Rattle.sqlite.specs.Order.{Row}
use Rattle.sqlite.specs.Edit.{next_rowid, numbered}
use Rattle.sqlite.specs.State.{State, Executes}
use Rattle.sqlite_rules.specs.declared.error.Rowids.TheVariants.{Chosen}
use Rattle.pid_ident.specs.PathTexts.{path_text, IsPath}
use Rattle.pid_moderation.specs.declared.command.Reply.{Reply}
use Rattle.pid_moderation.specs.declared.facts.State.{State as Standings}
use Rattle.pid_moderation.specs.declared.facts.State.TheVariants.{Pending, Withdrawn}
use Rattle.pid_moderation.specs.declared.rank.Rank.{Rank}
use Rattle.pid_moderation.specs.Items.{name_at, has_name}
use Rattle.pid_moderation.specs.Ranks.{rank_number}
use Rattle.pid_moderation.specs.Views.{Views, Submitted, Remark, submission_at, is_named_anew}
use Rattle.pid_tables.specs.declared.rows.schema_version.Version.{Version}
use Rattle.pid_tables.specs.declared.rows.schema_version.Version.TheVariants.{Two}
use Rattle.pid_tables.specs.Rows.Schema.{schema_of, meta, account, item, submission, remark, receipt, item_since}
use Rattle.pid_tables.specs.Rows.TableRows.{number, meta_row, account_row, item_row, submission_row, remark_row, receipt_row, since_row, form_of, name_of, state_number, reply_kind, first_number, second_number, third_number}
use Rattle.pid_moderation.specs.Submissions.{decider_of, reason_of, standing_in}
use Rattle.pid_tables.specs.Rows.Shows.{Counts, Numbers, ShowsKeeping, labels_of, remark_in, receipt_in, since_in, numbers_in}
use Rattle.pid_tables.specs.Rows.Steps.Shows.{ShowsCounting}
use Rattle.pid_tables.specs.Rows.Steps.Writes.{with_name}
use Rattle.pid_tables.specs.Rows.Steps.Writes.{with_rank, with_revision, without_item, with_submission, with_state, with_remark, with_reply}
use Rattle.pid_tables.specs.Rows.Steps.Writes.{with_item_named, with_number, NamesDecider}
use Rattle.pid_tables.proofs.OfRows.WriteLemmas.{cast_null, cast_int}
use Rattle.pid_tables.proofs.OfRows.RanLemmas.{updates_alone}
use Rattle.pid_tables.proofs.OfRows.MapLemmas.{map_added, map_changed}
use Rattle.pid_tables.proofs.OfRows.SetLemmas.{text_set, put_sorted, left_sorted, name_put, name_left, items_set, submissions_set, past_the_last, not_before, all_with, submission_set, state_set, not_there, any_author, past_all, remark_set, reply_set, revision_set, since_left, since_named}
use Rattle.pid_tables.proofs.OfRows.Keys.{meta_found, account_found, item_found, submission_found, remark_found, receipt_found, since_found, meta_plain, account_plain, item_plain, submission_plain, remark_plain, receipt_plain, since_plain, meta_cast, account_cast, item_cast, submission_cast, remark_cast, receipt_cast, since_cast}
use Rattle.pid_tables.proofs.OfRows.KeyTexts.{by_first, by_rowid, by_both, pair_terms, pair_change, submission_terms, submission_change, withdrawal, remark_terms, receipt_terms, update_meta_is, insert_account_is, update_account_is, insert_item_is, update_item_is, insert_submission_is, update_submission_is, withdraw_submission_is, insert_remark_is, insert_receipt_is, insert_since_is, update_since_is}
use Rattle.pid_tables.proofs.OfRows.StatementTexts.{update_meta, insert_account, update_account, insert_item, update_item, delete_item, insert_submission, update_submission, withdraw_submission, insert_remark, insert_receipt, insert_since, update_since}
use Rattle.pid_tables.proofs.OfRows.ShowLemmas.{still, rows_same, wrote_meta, wrote_account, wrote_item, wrote_submission, wrote_remark, wrote_receipt, wrote_since, wrote_revision}
use Rattle.pid_tables.proofs.OfRows.SinceRemoved.{removed}
use Rattle.pid_tables.proofs.OfRows.DecodeLemmas.{mapped_some}
use Rattle.sqlite.specs.Effect.{Database}

-- it was carried out
abbrev pub Ran : List ℕ → Row → State → State → Type 0
Ran sql params old new = (count : ℕ) × Executes sql params old new (Ok count)

pub some_there : {A : Type 0} (o : Option A) → IsSome o → (a : A) × (o ≡ Some a)
some_there None h = absurd cc
some_there (Some a) h = (a, refl)

module _ {version : Version} {numbers : Numbers} (old new : State) (c : Counts) (v : Views) (shows : ShowsKeeping version c numbers old.now v) where
  pub account_added : (name : List ℕ) (rank : Rank) → v.rank name ≡ None → Ran insert_account (Text name ∷ number (rank_number rank) ∷ []) old new → ShowsKeeping version c numbers new.now (with_rank name rank v)
  account_added name rank none ran =
      let n = rank_number rank in
      wrote_account old new c v shows _
      (map_added account_row by_first _ account_found v.rank name (schema_of version) account 1 refl account_plain old new shows.schema shows.accounts insert_account pair_terms 3 (insert_account_is version)
      (number n ∷ []) (Null ∷ Text name ∷ number n ∷ []) refl rank
      (λ rs. (next_rowid rs, ap (λ r. numbered Chosen rs (r ∷ [])) (account_cast Null name n ∙ ap (λ w. w ∷ Text name ∷ number n ∷ []) cast_null)))
      _ (text_set v.rank name (Some rank)) ran.0 none ran.1)

  pub rank_changed : (name : List ℕ) (rank : Rank) → IsSome (v.rank name) → Ran update_account (Text name ∷ number (rank_number rank) ∷ []) old new → ShowsKeeping version c numbers new.now (with_rank name rank v)
  rank_changed name rank some ran =
      let n = rank_number rank in
      let was = some_there (v.rank name) some in
      wrote_account old new c v shows _
      (map_changed account_row by_first _ account_found v.rank name (schema_of version) account 1 refl account_plain old new shows.schema shows.accounts update_account pair_change (update_account_is version) (updates_alone version account old.now.trees)
      (number n ∷ []) was.0 rank (λ id. account_cast (Int id) name n ∙ ap (λ w. w ∷ Text name ∷ number n ∷ []) (cast_int id))
      _ (text_set v.rank name (Some rank)) ran.0 was.1 ran.1)

  -- ---- items

  pub item_added : (path name : List ℕ) → name_at path v.items ≡ None → Ran insert_item (Text path ∷ Text name ∷ []) old new → ShowsKeeping version c numbers new.now (with_item_named path name v)
  item_added path name none ran =
      wrote_item old new c v shows _ (put_sorted path name v.items shows.views.sorted)
      (map_added item_row by_first _ item_found (λ p. name_at p v.items) path (schema_of version) item 2 refl item_plain old new shows.schema shows.items insert_item pair_terms 3 (insert_item_is version)
      (Text name ∷ []) (Null ∷ Text path ∷ Text name ∷ []) refl name
      (λ rs. (next_rowid rs, ap (λ r. numbered Chosen rs (r ∷ [])) (item_cast Null path name ∙ ap (λ w. w ∷ Text path ∷ Text name ∷ []) cast_null)))
      _ (name_put v.items path name) ran.0 none ran.1)

  pub item_renamed : (path name : List ℕ) → IsSome (name_at path v.items) → Ran update_item (Text path ∷ Text name ∷ []) old new → ShowsKeeping version c numbers new.now (with_item_named path name v)
  item_renamed path name some ran =
      let was = some_there (name_at path v.items) some in
      wrote_item old new c v shows _ (put_sorted path name v.items shows.views.sorted)
      (map_changed item_row by_first _ item_found (λ p. name_at p v.items) path (schema_of version) item 2 refl item_plain old new shows.schema shows.items update_item pair_change (update_item_is version) (updates_alone version item old.now.trees)
      (Text name ∷ []) was.0 name (λ id. item_cast (Int id) path name ∙ ap (λ w. w ∷ Text path ∷ Text name ∷ []) (cast_int id))
      _ (name_put v.items path name) ran.0 was.1 ran.1)

  -- ---- counts

  pub items_counted : (n : ℕ) → Ran update_meta (Text (codes "items") ∷ number n ∷ []) old new → ShowsKeeping version (record c { items = n }) numbers new.now v
  items_counted n ran =
      wrote_meta old new c v shows (record c { items = n })
      (map_changed meta_row by_first _ meta_found (labels_of version c numbers.revision) (codes "items") (schema_of version) meta 0 refl meta_plain old new shows.schema shows.meta update_meta pair_change (update_meta_is version) (updates_alone version meta old.now.trees)
      (number n ∷ []) c.items n (λ id. meta_cast (Int id) (codes "items") n ∙ ap (λ w. w ∷ Text (codes "items") ∷ number n ∷ []) (cast_int id))
      _ (items_set version c numbers.revision n) ran.0 refl ran.1)

  pub submissions_counted : (n : ℕ) → Ran update_meta (Text (codes "submissions") ∷ number n ∷ []) old new → ShowsKeeping version (record c { submissions = n }) numbers new.now v
  submissions_counted n ran =
      wrote_meta old new c v shows (record c { submissions = n })
      (map_changed meta_row by_first _ meta_found (labels_of version c numbers.revision) (codes "submissions") (schema_of version) meta 0 refl meta_plain old new shows.schema shows.meta update_meta pair_change (update_meta_is version) (updates_alone version meta old.now.trees)
      (number n ∷ []) c.submissions n (λ id. meta_cast (Int id) (codes "submissions") n ∙ ap (λ w. w ∷ Text (codes "submissions") ∷ number n ∷ []) (cast_int id))
      _ (submissions_set version c numbers.revision n) ran.0 refl ran.1)

  -- ---- submissions

  pub submission_added : (s : Submitted) → IsPath s.path → (n : ℕ) → n ≡ length v.submits + 1
      → Ran insert_submission (number n ∷ Text s.author ∷ Text (path_text s.path) ∷ number (form_of s.proposal) ∷ Text (name_of s.proposal) ∷ Text s.note ∷ []) old new
      → ShowsKeeping version c numbers new.now (with_submission s v)
  submission_added s path n last ran =
      let past : submission_at n v.submits ≡ None = past_the_last v.submits n last in
      let row = number n ∷ Null ∷ Text s.author ∷ Text (path_text s.path) ∷ number (form_of s.proposal) ∷ Text (name_of s.proposal) ∷ Text s.note ∷ number 0 ∷ Text [] ∷ Text [] ∷ [] in
      wrote_submission old new c v shows (v.submits ++ s ∷ []) v.state (all_with _ v.submits s shows.views.paths path) (λ k none. shows.views.pending k (not_before v.submits s k none))
      (map_added submission_row by_rowid _ submission_found (standing_in v) n (schema_of version) submission 3 refl submission_plain old new shows.schema shows.submissions insert_submission submission_terms 10 (insert_submission_is version)
      (Text s.author ∷ Text (path_text s.path) ∷ number (form_of s.proposal) ∷ Text (name_of s.proposal) ∷ Text s.note ∷ []) row refl (record { submitted = s; state = Pending })
      (λ rs. (pos n, ap (λ r. numbered Chosen rs (r ∷ [])) (submission_cast n (form_of s.proposal) 0 s.author (path_text s.path) (name_of s.proposal) s.note [] [])))
      _ (submission_set v s n last (shows.views.pending n past)) ran.0 (ap (option_map _) past) ran.1)

  pub submission_decided : (n : ℕ) (state : Standings) → NamesDecider state → IsSome (submission_at n v.submits)
      → Ran update_submission (number n ∷ number (state_number state) ∷ Text (decider_of [] state) ∷ Text (reason_of state) ∷ []) old new → ShowsKeeping version c numbers new.now (with_state n state v)
  submission_decided n state names there ran =
      let was = some_there (submission_at n v.submits) there in
      let s = was.0 in
      wrote_submission old new c v shows v.submits _ shows.views.paths (λ k none. not_there v n state there k none (shows.views.pending k none))
      (map_changed submission_row by_rowid _ submission_found (standing_in v) n (schema_of version) submission 3 refl submission_plain old new shows.schema shows.submissions update_submission submission_change (update_submission_is version) (updates_alone version submission old.now.trees)
      (number (state_number state) ∷ Text (decider_of [] state) ∷ Text (reason_of state) ∷ []) (record { submitted = s; state = v.state n }) (record { submitted = s; state = state })
      (λ id. submission_cast n (form_of s.proposal) (state_number state) s.author (path_text s.path) (name_of s.proposal) s.note (decider_of [] state) (reason_of state)
      ∙ ap (λ d. number n ∷ Null ∷ Text s.author ∷ Text (path_text s.path) ∷ number (form_of s.proposal) ∷ Text (name_of s.proposal) ∷ Text s.note ∷ number (state_number state) ∷ Text d ∷ Text (reason_of state) ∷ []) (any_author s.author state names))
      _ (state_set v n state s was.1) ran.0 (ap (option_map _) was.1) ran.1)

  pub submission_withdrawn : (n : ℕ) → IsSome (submission_at n v.submits) → Ran withdraw_submission (number n ∷ []) old new → ShowsKeeping version c numbers new.now (with_state n Withdrawn v)
  submission_withdrawn n there ran =
      let was = some_there (submission_at n v.submits) there in
      let s = was.0 in
      wrote_submission old new c v shows v.submits _ shows.views.paths (λ k none. not_there v n Withdrawn there k none (shows.views.pending k none))
      (map_changed submission_row by_rowid _ submission_found (standing_in v) n (schema_of version) submission 3 refl submission_plain old new shows.schema shows.submissions withdraw_submission withdrawal (withdraw_submission_is version) (updates_alone version submission old.now.trees)
      [] (record { submitted = s; state = v.state n }) (record { submitted = s; state = Withdrawn })
      (λ id. submission_cast n (form_of s.proposal) 3 s.author (path_text s.path) (name_of s.proposal) s.note s.author [])
      _ (state_set v n Withdrawn s was.1) ran.0 (ap (option_map _) was.1) ran.1)

  -- ---- remarks and receipts

  pub remark_added : (n : ℕ) (place : ℕ) (r : Remark) → place ≡ length (v.remarks n) + 1 → Ran insert_remark (number n ∷ number place ∷ Text r.author ∷ Text r.text ∷ []) old new
      → ShowsKeeping version c numbers new.now (with_remark n r v)
  remark_added n place r last ran =
      wrote_remark old new c v shows _
      (map_added remark_row by_both _ remark_found (remark_in v) (n, place) (schema_of version) remark 4 refl remark_plain old new shows.schema shows.remarks insert_remark remark_terms 5 (insert_remark_is version)
      (Text r.author ∷ Text r.text ∷ []) (Null ∷ number n ∷ number place ∷ Text r.author ∷ Text r.text ∷ []) refl r
      (λ rs. (next_rowid rs, ap (λ x. numbered Chosen rs (x ∷ [])) (remark_cast Null n place r.author r.text ∙ ap (λ w. w ∷ number n ∷ number place ∷ Text r.author ∷ Text r.text ∷ []) cast_null)))
      _ (remark_set v n r place last) ran.0 (past_all (v.remarks n) place last) ran.1)

  pub reply_kept : (who token : List ℕ) (reply : Reply) → v.kept who token ≡ None
      → Ran insert_receipt (Text who ∷ Text token ∷ number (reply_kind reply) ∷ number (first_number reply) ∷ number (second_number reply) ∷ number (third_number reply) ∷ []) old new
      → ShowsKeeping version c numbers new.now (with_reply who token reply v)
  reply_kept who token reply none ran =
      let rest = number (reply_kind reply) ∷ number (first_number reply) ∷ number (second_number reply) ∷ number (third_number reply) ∷ [] in
      wrote_receipt old new c v shows _
      (map_added receipt_row by_both _ receipt_found (receipt_in v) (who, token) (schema_of version) receipt 5 refl receipt_plain old new shows.schema shows.receipts insert_receipt receipt_terms 7 (insert_receipt_is version)
      rest (Null ∷ Text who ∷ Text token ∷ rest) refl reply
      (λ rs. (next_rowid rs, ap (λ x. numbered Chosen rs (x ∷ [])) (receipt_cast Null who token (reply_kind reply) (first_number reply) (second_number reply) (third_number reply) ∙ ap (λ w. w ∷ Text who ∷ Text token ∷ rest) cast_null)))
      _ (reply_set v who token reply) ran.0 none ran.1)

-- ---- what schema 2 has beside

module _ {numbers : Numbers} (old new : State) (c : Counts) (v : Views) (shows : ShowsKeeping Two c numbers old.now v) where
  pub since_added : (path : List ℕ) (n : ℕ) → numbers.since path ≡ None → Ran insert_since (Text path ∷ number n ∷ []) old new → ShowsKeeping Two c (with_number path n numbers) new.now v
  since_added path n none ran =
      wrote_since old new c v shows _
      (map_added since_row by_first _ since_found numbers.since path (schema_of Two) item_since 6 refl since_plain old new shows.schema shows.sinces insert_since pair_terms 3 insert_since_is
      (number n ∷ []) (Null ∷ Text path ∷ number n ∷ []) refl n
      (λ rs. (next_rowid rs, ap (λ r. numbered Chosen rs (r ∷ [])) (since_cast Null path n ∙ ap (λ w. w ∷ Text path ∷ number n ∷ []) cast_null)))
      _ (text_set numbers.since path (Some n)) ran.0 none ran.1)

  pub since_changed : (path : List ℕ) (n : ℕ) → IsSome (numbers.since path) → Ran update_since (Text path ∷ number n ∷ []) old new → ShowsKeeping Two c (with_number path n numbers) new.now v
  since_changed path n some ran =
      let was = some_there (numbers.since path) some in
      wrote_since old new c v shows _
      (map_changed since_row by_first _ since_found numbers.since path (schema_of Two) item_since 6 refl since_plain old new shows.schema shows.sinces update_since pair_change update_since_is (updates_alone Two item_since old.now.trees)
      (number n ∷ []) was.0 n (λ id. since_cast (Int id) path n ∙ ap (λ w. w ∷ Text path ∷ number n ∷ []) (cast_int id))
      _ (text_set numbers.since path (Some n)) ran.0 was.1 ran.1)

  pub revision_written : (n : ℕ) → Ran update_meta (Text (codes "revision") ∷ number n ∷ []) old new → ShowsKeeping Two c (record numbers { revision = n }) new.now (with_revision n v)
  revision_written n ran =
      wrote_revision old new c v shows n
      (map_changed meta_row by_first _ meta_found (labels_of Two c numbers.revision) (codes "revision") (schema_of Two) meta 0 refl meta_plain old new shows.schema shows.meta update_meta pair_change (update_meta_is Two) (updates_alone Two meta old.now.trees)
      (number n ∷ []) numbers.revision n (λ id. meta_cast (Int id) (codes "revision") n ∙ ap (λ w. w ∷ Text (codes "revision") ∷ number n ∷ []) (cast_int id))
      _ (revision_set c numbers.revision n) ran.0 refl ran.1)

-- both rows of the item go
pub item_removed : (old new : State) (c : Counts) (v : Views) → ShowsCounting c old.now v → (path : List ℕ) → Ran delete_item (Text path ∷ []) old new → ShowsCounting c new.now (without_item path v)
item_removed old new c v shows path ran =
    let it = removed old new (λ p. name_at p v.items) (λ p. name_at p (without_item path v).items) (since_in v) (since_in (without_item path v)) path shows.schema shows.items shows.sinces
    (λ p n is. let found = mapped_some (λ (name : List ℕ). v.since p) (name_at p v.items) n is in (found.0, found.1)) (name_left v.items path) (since_left v path) ran.0 ran.1 in
    record {
      schema = it.schema;
      sound = it.sound;
      views = record { sorted = left_sorted path v.items shows.views.sorted; paths = shows.views.paths; pending = shows.views.pending };
      meta = still meta_row (labels_of Two c v.revision) _ _ (it.others.0 (λ e. omega arith) (λ e. omega arith)) shows.meta;
      accounts = still account_row v.rank _ _ (it.others.1.0 (λ e. omega arith) (λ e. omega arith)) shows.accounts;
      items = it.of_items;
      submissions = still submission_row (standing_in v) _ _ (it.others.1.1.1.0 (λ e. omega arith) (λ e. omega arith)) shows.submissions;
      remarks = still remark_row (remark_in v) _ _ (it.others.1.1.1.1.0 (λ e. omega arith) (λ e. omega arith)) shows.remarks;
      receipts = still receipt_row (receipt_in v) _ _ (it.others.1.1.1.1.1.0 (λ e. omega arith) (λ e. omega arith)) shows.receipts;
      sinces = it.of_since;
    }

-- an item that is named anew has its number
pub named_shows : (c : Counts) (n : ℕ) (path name : List ℕ) (v : Views) (db : Database) → is_named_anew (name_at path v.items) (Some name) ≡ true → ShowsKeeping Two c (with_number path n (numbers_in v)) db (with_item_named path name v)
    → ShowsCounting c db (with_name n path name v)
named_shows c n path name v db anew h = record {
  schema = h.schema;
  sound = h.sound;
  views = record { sorted = h.views.sorted; paths = h.views.paths; pending = h.views.pending };
  meta = h.meta;
  accounts = h.accounts;
  items = h.items;
  submissions = h.submissions;
  remarks = h.remarks;
  receipts = h.receipts;
  sinces = rows_same since_row _ (since_in (with_name n path name v)) (db.trees 11) (since_named n path name v anew) h.sinces;
}

pub since_there : (v : Views) (path : List ℕ) → IsSome (name_at path v.items) → IsSome (since_in v path)
since_there v path there = go (name_at path v.items) there
  where
    go : (o : Option (List ℕ)) → IsSome o → IsSome (option_map (λ (name : List ℕ). v.since path) o)
    go None h = absurd cc
    go (Some name) h = h

-- the second of the two rows of an item that is added or renamed
module _ (mid new : State) (c : Counts) (v : Views) (path name : List ℕ) (n : ℕ) (shows : ShowsKeeping Two c (numbers_in v) mid.now (with_item_named path name v)) where
  pub number_added : name_at path v.items ≡ None → Ran insert_since (Text path ∷ number n ∷ []) mid new → ShowsCounting c new.now (with_name n path name v)
  number_added none ran =
      named_shows c n path name v new.now (ap (λ o. not (has_name name o)) none)
      (since_added mid new c (with_item_named path name v) shows path n (ap (option_map (λ (name : List ℕ). v.since path)) none) ran)

  pub number_changed : IsSome (name_at path v.items) → has_name name (name_at path v.items) ≡ false → Ran update_since (Text path ∷ number n ∷ []) mid new → ShowsCounting c new.now (with_name n path name v)
  number_changed some anew ran = named_shows c n path name v new.now (ap not anew) (since_changed mid new c (with_item_named path name v) shows path n (since_there v path some) ran)
