-- The steps that lead from schema 1 to schema 2.
use Rattle.std.proofs.Common.{◌≡◌, ℕ, List, [], ◌∷◌, None, Some, Option, Ok, refl, sym, ap, subst, ◌∙◌, false, arith, codes}
use Rattle.std.specs.Prelude.{option_map}
use Rattle.sqlite.specs.declared.types.Value.TheVariants.{Null, Int, Text}
use Rattle.sqlite.specs.Change.{created, next_tree, KeepsRows}
use Rattle.sqlite.specs.Command.TheVariants.{CreateTable}
use Rattle.sqlite.specs.Does.{Tally, lacks_sequence}
use Rattle.sqlite.specs.Edit.{next_rowid, numbered}
use Rattle.sqlite.specs.Effect.{Database, IsDatabase}
use Rattle.sqlite.specs.Listing.{understood}
use Rattle.sqlite.specs.Schema.{Schema}
use Rattle.sqlite.specs.State.{State, Writes}
use Rattle.sqlite.proofs.Callers.{runs_as}
use Rattle.sqlite_rules.specs.declared.error.Rowids.TheVariants.{Chosen}
use Rattle.pid_moderation.specs.Items.{name_at}
use Rattle.pid_moderation.specs.Views.{Views}
use Rattle.pid_tables.specs.declared.rows.schema_version.Version.TheVariants.{One, Two}
use Rattle.pid_tables.specs.Rows.Steps.Moving.{IsBetween}
use Rattle.pid_tables.specs.Rows.PairRows.{RowsAre}
use Rattle.pid_tables.specs.Rows.Steps.Queries.{IsWriteAs}
use Rattle.pid_tables.specs.Rows.Schema.{schema_of, meta, item_since}
use Rattle.pid_tables.specs.Rows.Shows.{Counts, ShowsKeeping, labels_of, numbers_in, remark_in, receipt_in, since_in}
use Rattle.pid_tables.specs.Rows.Steps.Shows.{ShowsCounting}
use Rattle.pid_moderation.specs.Submissions.{standing_in}
use Rattle.pid_tables.specs.Rows.TableRows.{number, meta_row, account_row, item_row, submission_row, remark_row, receipt_row, since_row}
use Rattle.pid_tables.proofs.OfRows.KeyTexts.{by_first, pair_terms, pair_change, insert_meta_is, update_meta_is}
use Rattle.pid_tables.proofs.OfRows.Keys.{meta_found, meta_plain, meta_cast}
use Rattle.pid_tables.proofs.OfRows.MapLemmas.{Wrote, map_added, map_changed}
use Rattle.pid_tables.proofs.OfRows.RanLemmas.{updates_alone}
use Rattle.pid_tables.proofs.OfRows.SetLemmas.{text_set, labels_between, schema_raised}
use Rattle.pid_tables.proofs.OfRows.ShowLemmas.{still, rows_same}
use Rattle.pid_tables.proofs.OfRows.SinceFilled.{filled}
use Rattle.pid_tables.proofs.OfRows.SinceTexts.{create_is, create_whole, create_plain, create_defined, create_tree, create_alone, since_created, fill_is, fill_plain}
use Rattle.pid_tables.proofs.OfRows.StatementTexts.{create_since, fill_since, insert_meta, update_meta}
use Rattle.pid_tables.proofs.OfRows.WriteFaults.{known_text}
use Rattle.pid_tables.proofs.OfRows.WriteLemmas.{went, same_value, cast_null, cast_int}
use Rattle.pid_tables.proofs.OfRows.WriteRows.{Ran}

-- the seventh table is there and has no row; the six are as they were
pub record HasNewTable (old new : State) : Type 0 where
  pub schema : new.now.schema ≡ schema_of Two
  pub sound : IsDatabase new.now
  pub empty : new.now.trees 11 ≡ []
  pub kept : KeepsRows (schema_of One).tables old.now.trees new.now.trees

pub table_made : (old new : State) → old.now.schema ≡ schema_of One → Ran create_since [] old new → HasNewTable old new
table_made old new has (count, h) =
    let w = subst (λ t. Writes old new None CreateTable t [] count) create_whole (runs_as create_since [] old new (schema_of One) has CreateTable create_is create_plain count h) in
    let all = went w.changed in
    let first = went all.1 in
    let makes = first.1 in
    let both : Ok makes.table ≡ Ok (record item_since { tree = 0 }) = sym makes.defined ∙ create_defined in
    let same : makes.table ≡ record item_since { tree = 0 } = same_value both in
    let schema : first.0.schema ≡ schema_of Two = makes.is ∙ ap (λ s. created s makes.table) has ∙ ap (created (schema_of One)) same ∙ since_created in
    let plain : lacks_sequence first.0.schema ≡ false = ap lacks_sequence schema ∙ create_alone in
    let now : new.now ≡ first.0 = ap (λ (p : Tally × Database). p.1) (same_value all.2) ∙ same_value (rw plain at first.2) in
    let keeps : KeepsRows (schema_of One).tables old.now.trees first.0.trees = subst (λ l. KeepsRows l old.now.trees first.0.trees) (ap (λ (s : Schema). s.tables) has) makes.others in
    let empty : first.0.trees 11 ≡ [] = subst (λ n. first.0.trees n ≡ []) (ap next_tree has ∙ create_tree) makes.empty in
    record {
      schema = ap (λ (d : Database). d.schema) now ∙ schema;
      sound = w.sound;
      empty = ap (λ (d : Database). d.trees 11) now ∙ empty;
      kept = subst (λ (d : Database). KeepsRows (schema_of One).tables old.now.trees d.trees) (sym now) keeps;
    }

zero_or : (o : Option (List ℕ)) (n : ℕ) → ((m : ℕ) → option_map (λ (name : List ℕ). n) o ≡ Some m → m ≡ 0) → option_map (λ (name : List ℕ). 0) o ≡ option_map (λ (name : List ℕ). n) o
zero_or None n h = refl
zero_or (Some name) n h = ap Some (sym (h n refl))

-- the table is made and filled
pub table_added : (old mid new : State) (c : Counts) (v : Views) → ShowsKeeping One c (numbers_in v) old.now v → Ran create_since [] old mid → Ran fill_since [] mid new → IsBetween c new.now v
table_added old mid new c v shows made (count, h) =
    let table = table_made old mid shows.schema made in
    let it = filled mid new (λ p. name_at p v.items) table.schema (subst (RowsAre item_row _) (sym table.kept.1.1.0) shows.items) table.empty count h in
    record {
      schema = it.schema;
      sound = it.sound;
      views = shows.views;
      uncounted = shows.sinces.0;
      meta = still meta_row (labels_of One c 0) _ _ (it.others.0 (λ e. omega arith) ∙ table.kept.0) shows.meta;
      accounts = still account_row v.rank _ _ (it.others.1.0 (λ e. omega arith) ∙ table.kept.1.0) shows.accounts;
      items = still item_row _ _ _ (it.others.1.1.0 (λ e. omega arith) ∙ table.kept.1.1.0) shows.items;
      submissions = still submission_row (standing_in v) _ _ (it.others.1.1.1.0 (λ e. omega arith) ∙ table.kept.1.1.1.0) shows.submissions;
      remarks = still remark_row (remark_in v) _ _ (it.others.1.1.1.1.0 (λ e. omega arith) ∙ table.kept.1.1.1.1.0) shows.remarks;
      receipts = still receipt_row (receipt_in v) _ _ (it.others.1.1.1.1.1.0 (λ e. omega arith) ∙ table.kept.1.1.1.1.1.0) shows.receipts;
      sinces = rows_same since_row (λ p. option_map (λ (name : List ℕ). 0) (name_at p v.items)) (since_in v) _ (λ p. zero_or (name_at p v.items) (v.since p) (shows.sinces.1 p)) it.rows;
    }

pub fill_writes : IsWriteAs fill_since (understood (schema_of Two) fill_since)
fill_writes = known_text fill_since _ _ fill_is fill_plain tt

module _ (old mid new : State) (c : Counts) (v : Views) (shows : IsBetween c old.now v) (first : Ran insert_meta (Text (codes "revision") ∷ number 0 ∷ []) old mid) where
  revision_added : Wrote (schema_of Two) meta_row meta old mid (labels_between c)
  revision_added =
      map_added meta_row by_first _ meta_found (labels_of One c 0) (codes "revision") (schema_of Two) meta 0 refl meta_plain old mid shows.schema shows.meta insert_meta pair_terms 3 (insert_meta_is Two)
      (number 0 ∷ []) (Null ∷ Text (codes "revision") ∷ number 0 ∷ []) refl 0
      (λ rs. (next_rowid rs, ap (λ r. numbered Chosen rs (r ∷ [])) (meta_cast Null (codes "revision") 0 ∙ ap (λ w. w ∷ Text (codes "revision") ∷ number 0 ∷ []) cast_null)))
      _ (text_set (labels_of One c 0) (codes "revision") (Some 0)) first.0 refl first.1

  pub between_schema : mid.now.schema ≡ schema_of Two
  between_schema = revision_added.schema_is

  -- the labels are those of schema 2
  pub labels_raised : Ran update_meta (Text (codes "schema") ∷ number 2 ∷ []) mid new → ShowsCounting c new.now v
  labels_raised last =
      let one = revision_added in
      let two = map_changed meta_row by_first _ meta_found (labels_between c) (codes "schema") (schema_of Two) meta 0 refl meta_plain mid new one.schema_is one.rows update_meta pair_change (update_meta_is Two) (updates_alone Two meta mid.now.trees)
      (number 2 ∷ []) 1 2 (λ id. meta_cast (Int id) (codes "schema") 2 ∙ ap (λ w. w ∷ Text (codes "schema") ∷ number 2 ∷ []) (cast_int id))
      _ (schema_raised c) last.0 refl last.1 in
      record {
        schema = two.schema_is;
        sound = two.sound;
        views = shows.views;
        meta = subst (λ n. RowsAre meta_row (labels_of Two c n) (new.now.trees 0)) (sym shows.uncounted) two.rows;
        accounts = still account_row v.rank _ _ (two.others.1.0 (λ e. omega arith) ∙ one.others.1.0 (λ e. omega arith)) shows.accounts;
        items = still item_row _ _ _ (two.others.1.1.0 (λ e. omega arith) ∙ one.others.1.1.0 (λ e. omega arith)) shows.items;
        submissions = still submission_row (standing_in v) _ _ (two.others.1.1.1.0 (λ e. omega arith) ∙ one.others.1.1.1.0 (λ e. omega arith)) shows.submissions;
        remarks = still remark_row (remark_in v) _ _ (two.others.1.1.1.1.0 (λ e. omega arith) ∙ one.others.1.1.1.1.0 (λ e. omega arith)) shows.remarks;
        receipts = still receipt_row (receipt_in v) _ _ (two.others.1.1.1.1.1.0 (λ e. omega arith) ∙ one.others.1.1.1.1.1.0 (λ e. omega arith)) shows.receipts;
        sinces = still since_row (since_in v) _ _ (two.others.1.1.1.1.1.1.0 (λ e. omega arith) ∙ one.others.1.1.1.1.1.1.0 (λ e. omega arith)) shows.sinces;
      }
