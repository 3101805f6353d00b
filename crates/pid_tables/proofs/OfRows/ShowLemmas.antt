-- What a write on one table leaves of what the tables show.
use Rattle.std.proofs.Common.{◌≡◌, ◌≢◌, ℕ, ℤ, List, true, None, Option, Ok, Err, Result, OnOk, sym, subst, arith}
use Rattle.std.specs.List.{AllByRecursion}
use Rattle.std.specs.FinMap.Entries.{is_sorted}
use Rattle.sqlite.specs.Order.{Row}
use Rattle.sqlite.specs.Table.{Table}
use Rattle.sqlite.specs.State.{State}
use Rattle.pid_ident.specs.PathTexts.{IsPath}
use Rattle.pid_ident.specs.Trees.{text_cmp}
use Rattle.pid_moderation.specs.declared.command.Reply.{Reply}
use Rattle.pid_moderation.specs.declared.facts.State.{State as Standings}
use Rattle.pid_moderation.specs.declared.rank.Rank.{Rank}
use Rattle.pid_moderation.specs.Items.{Items, name_at}
use Rattle.pid_moderation.specs.declared.facts.State.TheVariants.{Pending}
use Rattle.pid_moderation.specs.Views.{Views, Submitted, Remark, submission_at}
use Rattle.pid_tables.specs.declared.rows.schema_version.Version.{Version}
use Rattle.pid_tables.specs.declared.rows.schema_version.Version.TheVariants.{One, Two}
use Rattle.pid_tables.specs.Rows.Schema.{meta, account, item, submission, remark, receipt, item_since, schema_of, more_tables}
use Rattle.pid_tables.specs.Rows.PairRows.{Map, RowsAre}
use Rattle.pid_tables.specs.Rows.TableRows.{meta_row, account_row, item_row, submission_row, remark_row, receipt_row, since_row}
use Rattle.pid_tables.specs.Rows.Steps.Writes.{with_revision}
use Rattle.pid_tables.specs.Rows.Shows.{Counts, Numbers, ShowsNumbers, ShowsKeeping, labels_of, remark_in, receipt_in}
use Rattle.pid_moderation.specs.Submissions.{standing_in}
use Rattle.pid_tables.proofs.OfRows.MapLemmas.{Wrote}

pub still : {K V : Type 0} (row : ℤ → K → V → Row) (m : Map K V) (rows next : List Row) → next ≡ rows → RowsAre row m rows → RowsAre row m next
still row m rows next same = subst (λ xs. RowsAre row m xs) (sym same)

pub on_ok : {X E : Type 0} {P Q : Type 0} (r : Result X E) → (P → Q) → OnOk r P → OnOk r Q
on_ok (Ok x) f h = f h
on_ok (Err e) f h = tt

-- the table of schema 2 is as it was
sinces_still : (version : Version) (numbers : Numbers) (tree : ℕ) (old new : State) → AllByRecursion (λ (t : Table). t.tree ≢ tree → new.now.trees t.tree ≡ old.now.trees t.tree) (more_tables version) → 11 ≢ tree
    → ShowsNumbers version numbers old.now.trees → ShowsNumbers version numbers new.now.trees
sinces_still One numbers tree old new others past shows = shows
sinces_still Two numbers tree old new others past shows = still since_row numbers.since _ _ (others.0 past) shows

module _ {version : Version} {numbers : Numbers} (old new : State) (c : Counts) (v : Views) (shows : ShowsKeeping version c numbers old.now v) where
  pub wrote_meta : (counts : Counts) → Wrote (schema_of version) meta_row meta old new (labels_of version counts numbers.revision) → ShowsKeeping version counts numbers new.now v
  wrote_meta counts w = record {
    schema = w.schema_is;
    sound = w.sound;
    views = shows.views;
    meta = w.rows;
    accounts = still account_row v.rank _ _ (w.others.1.0 (λ e. omega arith)) shows.accounts;
    items = still item_row _ _ _ (w.others.1.1.0 (λ e. omega arith)) shows.items;
    submissions = still submission_row (standing_in v) _ _ (w.others.1.1.1.0 (λ e. omega arith)) shows.submissions;
    remarks = still remark_row (remark_in v) _ _ (w.others.1.1.1.1.0 (λ e. omega arith)) shows.remarks;
    receipts = still receipt_row (receipt_in v) _ _ (w.others.1.1.1.1.1.0 (λ e. omega arith)) shows.receipts;
    sinces = sinces_still version numbers 0 old new w.others.1.1.1.1.1.1 (λ e. omega arith) shows.sinces;
  }

  pub wrote_account : (rank : List ℕ → Option Rank) → Wrote (schema_of version) account_row account old new rank → ShowsKeeping version c numbers new.now (record v { rank = rank })
  wrote_account rank w = record {
    schema = w.schema_is;
    sound = w.sound;
    views = record { sorted = shows.views.sorted; paths = shows.views.paths; pending = shows.views.pending };
    meta = still meta_row (labels_of version c numbers.revision) _ _ (w.others.0 (λ e. omega arith)) shows.meta;
    accounts = w.rows;
    items = still item_row _ _ _ (w.others.1.1.0 (λ e. omega arith)) shows.items;
    submissions = still submission_row (standing_in v) _ _ (w.others.1.1.1.0 (λ e. omega arith)) shows.submissions;
    remarks = still remark_row (remark_in v) _ _ (w.others.1.1.1.1.0 (λ e. omega arith)) shows.remarks;
    receipts = still receipt_row (receipt_in v) _ _ (w.others.1.1.1.1.1.0 (λ e. omega arith)) shows.receipts;
    sinces = sinces_still version numbers 2 old new w.others.1.1.1.1.1.1 (λ e. omega arith) shows.sinces;
  }

  pub wrote_item : (items : Items) → is_sorted text_cmp items ≡ true → Wrote (schema_of version) item_row item old new (λ path. name_at path items) → ShowsKeeping version c numbers new.now (record v { items = items })
  wrote_item items sorted w = record {
    schema = w.schema_is;
    sound = w.sound;
    views = record { sorted = sorted; paths = shows.views.paths; pending = shows.views.pending };
    meta = still meta_row (labels_of version c numbers.revision) _ _ (w.others.0 (λ e. omega arith)) shows.meta;
    accounts = still account_row v.rank _ _ (w.others.1.0 (λ e. omega arith)) shows.accounts;
    items = w.rows;
    submissions = still submission_row (standing_in v) _ _ (w.others.1.1.1.0 (λ e. omega arith)) shows.submissions;
    remarks = still remark_row (remark_in v) _ _ (w.others.1.1.1.1.0 (λ e. omega arith)) shows.remarks;
    receipts = still receipt_row (receipt_in v) _ _ (w.others.1.1.1.1.1.0 (λ e. omega arith)) shows.receipts;
    sinces = sinces_still version numbers 4 old new w.others.1.1.1.1.1.1 (λ e. omega arith) shows.sinces;
  }

  pub wrote_submission : (submits : List Submitted) (state : ℕ → Standings) → AllByRecursion (λ (s : Submitted). IsPath s.path) submits → ((n : ℕ) → submission_at n submits ≡ None → state n ≡ Pending)
      → Wrote (schema_of version) submission_row submission old new (standing_in (record v { submits = submits; state = state })) → ShowsKeeping version c numbers new.now (record v { submits = submits; state = state })
  wrote_submission submits state paths pending w = record {
    schema = w.schema_is;
    sound = w.sound;
    views = record { sorted = shows.views.sorted; paths = paths; pending = pending };
    meta = still meta_row (labels_of version c numbers.revision) _ _ (w.others.0 (λ e. omega arith)) shows.meta;
    accounts = still account_row v.rank _ _ (w.others.1.0 (λ e. omega arith)) shows.accounts;
    items = still item_row _ _ _ (w.others.1.1.0 (λ e. omega arith)) shows.items;
    submissions = w.rows;
    remarks = still remark_row (remark_in v) _ _ (w.others.1.1.1.1.0 (λ e. omega arith)) shows.remarks;
    receipts = still receipt_row (receipt_in v) _ _ (w.others.1.1.1.1.1.0 (λ e. omega arith)) shows.receipts;
    sinces = sinces_still version numbers 6 old new w.others.1.1.1.1.1.1 (λ e. omega arith) shows.sinces;
  }

  pub wrote_remark : (remarks : ℕ → List Remark) → Wrote (schema_of version) remark_row remark old new (remark_in (record v { remarks = remarks })) → ShowsKeeping version c numbers new.now (record v { remarks = remarks })
  wrote_remark remarks w = record {
    schema = w.schema_is;
    sound = w.sound;
    views = record { sorted = shows.views.sorted; paths = shows.views.paths; pending = shows.views.pending };
    meta = still meta_row (labels_of version c numbers.revision) _ _ (w.others.0 (λ e. omega arith)) shows.meta;
    accounts = still account_row v.rank _ _ (w.others.1.0 (λ e. omega arith)) shows.accounts;
    items = still item_row _ _ _ (w.others.1.1.0 (λ e. omega arith)) shows.items;
    submissions = still submission_row (standing_in v) _ _ (w.others.1.1.1.0 (λ e. omega arith)) shows.submissions;
    remarks = w.rows;
    receipts = still receipt_row (receipt_in v) _ _ (w.others.1.1.1.1.1.0 (λ e. omega arith)) shows.receipts;
    sinces = sinces_still version numbers 7 old new w.others.1.1.1.1.1.1 (λ e. omega arith) shows.sinces;
  }

  pub wrote_receipt : (kept : List ℕ → List ℕ → Option Reply) → Wrote (schema_of version) receipt_row receipt old new (receipt_in (record v { kept = kept })) → ShowsKeeping version c numbers new.now (record v { kept = kept })
  wrote_receipt kept w = record {
    schema = w.schema_is;
    sound = w.sound;
    views = record { sorted = shows.views.sorted; paths = shows.views.paths; pending = shows.views.pending };
    meta = still meta_row (labels_of version c numbers.revision) _ _ (w.others.0 (λ e. omega arith)) shows.meta;
    accounts = still account_row v.rank _ _ (w.others.1.0 (λ e. omega arith)) shows.accounts;
    items = still item_row _ _ _ (w.others.1.1.0 (λ e. omega arith)) shows.items;
    submissions = still submission_row (standing_in v) _ _ (w.others.1.1.1.0 (λ e. omega arith)) shows.submissions;
    remarks = still remark_row (remark_in v) _ _ (w.others.1.1.1.1.0 (λ e. omega arith)) shows.remarks;
    receipts = w.rows;
    sinces = sinces_still version numbers 9 old new w.others.1.1.1.1.1.1 (λ e. omega arith) shows.sinces;
  }

-- ---- what schema 2 has beside

-- maps that find the same have the same rows
pub rows_same : {K V : Type 0} (row : ℤ → K → V → Row) (m n : Map K V) (rows : List Row) → ((k : K) → m k ≡ n k) → RowsAre row m rows → RowsAre row n rows
rows_same row m n rows same are = subst (λ f. RowsAre row f rows) (λ i k. same k i) are

module _ {numbers : Numbers} (old new : State) (c : Counts) (v : Views) (shows : ShowsKeeping Two c numbers old.now v) where
  pub wrote_since : (since : Map (List ℕ) ℕ) → Wrote (schema_of Two) since_row item_since old new since → ShowsKeeping Two c (record numbers { since = since }) new.now v
  wrote_since since w = record {
    schema = w.schema_is;
    sound = w.sound;
    views = shows.views;
    meta = still meta_row (labels_of Two c numbers.revision) _ _ (w.others.0 (λ e. omega arith)) shows.meta;
    accounts = still account_row v.rank _ _ (w.others.1.0 (λ e. omega arith)) shows.accounts;
    items = still item_row _ _ _ (w.others.1.1.0 (λ e. omega arith)) shows.items;
    submissions = still submission_row (standing_in v) _ _ (w.others.1.1.1.0 (λ e. omega arith)) shows.submissions;
    remarks = still remark_row (remark_in v) _ _ (w.others.1.1.1.1.0 (λ e. omega arith)) shows.remarks;
    receipts = still receipt_row (receipt_in v) _ _ (w.others.1.1.1.1.1.0 (λ e. omega arith)) shows.receipts;
    sinces = w.rows;
  }

  pub wrote_revision : (n : ℕ) → Wrote (schema_of Two) meta_row meta old new (labels_of Two c n) → ShowsKeeping Two c (record numbers { revision = n }) new.now (with_revision n v)
  wrote_revision n w = record {
    schema = w.schema_is;
    sound = w.sound;
    views = record { sorted = shows.views.sorted; paths = shows.views.paths; pending = shows.views.pending };
    meta = w.rows;
    accounts = still account_row v.rank _ _ (w.others.1.0 (λ e. omega arith)) shows.accounts;
    items = still item_row _ _ _ (w.others.1.1.0 (λ e. omega arith)) shows.items;
    submissions = still submission_row (standing_in v) _ _ (w.others.1.1.1.0 (λ e. omega arith)) shows.submissions;
    remarks = still remark_row (remark_in v) _ _ (w.others.1.1.1.1.0 (λ e. omega arith)) shows.remarks;
    receipts = still receipt_row (receipt_in v) _ _ (w.others.1.1.1.1.1.0 (λ e. omega arith)) shows.receipts;
    sinces = still since_row numbers.since _ _ (w.others.1.1.1.1.1.1.0 (λ e. omega arith)) shows.sinces;
  }
