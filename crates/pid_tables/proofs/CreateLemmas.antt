-- What one CREATE TABLE leaves, and the first rows.
use Rattle.std.proofs.Common.{◌≡◌, ℕ, zero, suc, ℤ, arith, List, [], ◌∷◌, ◌++◌, fold, false, None, Some, Ok, Err, Result, IfErr, OnOk, IsTrue, refl, sym, ap, subst, ◌∙◌}
use Rattle.std.specs.List.{AllByRecursion}
use Rattle.sqlite.specs.Schema.{Schema}
use Rattle.sqlite.specs.Table.{Table}
use Rattle.sqlite.specs.Tree.{Trees}
use Rattle.sqlite.specs.Command.TheVariants.{CreateTable}
use Rattle.sqlite.specs.Change.{created, next_tree, KeepsRows}
use Rattle.sqlite.specs.Does.{Tally, lacks_sequence}
use Rattle.sqlite.specs.Effect.{Database, IsDatabase}
use Rattle.sqlite.specs.Listing.{understood}
use Rattle.sqlite.specs.State.{State, HasCleanDisk, Writes, Executes}
use Rattle.sqlite.proofs.Callers.{runs_as, IsPlain, command_of, statement_of}
use Rattle.sqlite_resolve.specs.declared.compiled.Compiled.{Compiled}
use Rattle.sqlite_resolve.specs.declared.error.CompileError.{CompileError}
use Rattle.sqlite.specs.declared.types.Value.TheVariants.{Null, Text}
use Rattle.sqlite.specs.Edit.{next_rowid, numbered}
use Rattle.sqlite_rules.specs.declared.error.Rowids.TheVariants.{Chosen}
use Rattle.pid_moderation.specs.declared.facts.State.TheVariants.{Pending}
use Rattle.pid_moderation.specs.Views.{Views}
use Rattle.pid_tables.specs.Rows.Schema.{pid_schema, no_schema, meta, account, item, submission, remark, receipt, item_since}
use Rattle.pid_tables.specs.declared.rows.schema_version.Version.TheVariants.{Two}
use Rattle.pid_tables.specs.Rows.PairRows.{Map, RowsAre}
use Rattle.pid_tables.specs.Rows.TableRows.{number, meta_row}
use Rattle.sqlite.specs.Order.{Row}
use Rattle.pid_tables.specs.Rows.Steps.Shows.{ShowsCounting}
use Rattle.pid_tables.specs.Rows.Shows.{remark_in, counted_from_one}
use Rattle.pid_tables.specs.Rows.Steps.Shows.{meta_of}
use Rattle.pid_moderation.specs.Submissions.{standing_in}
use Rattle.pid_tables.proofs.OfRows.MapLemmas.{map_added}
use Rattle.pid_tables.proofs.OfRows.Keys.{meta_found, meta_plain, meta_cast}
use Rattle.pid_tables.proofs.OfRows.KeyTexts.{by_first, pair_terms, insert_meta_is}
use Rattle.pid_tables.proofs.OfRows.StatementTexts.{insert_meta}
use Rattle.pid_tables.proofs.OfRows.WriteLemmas.{cast_null}
use Rattle.pid_tables.proofs.OfRows.WriteRows.{Ran}
use Rattle.pid_tables.proofs.OfRows.WriteFaults.{create_writes}
use Rattle.pid_tables.specs.declared.rows.fault.TableFault.{TableFault}
use Rattle.pid_tables.specs.Rows.Faults.{IsMemoryOrStore}
use Rattle.pid_tables.specs.Rows.Steps.Turns.{GoesOn}
use Rattle.pid_tables.specs.Rows.Steps.Queries.{IsWriteAs}
use Rattle.pid_tables.specs.Creation.{AreMade}
use Rattle.pid_tables.specs.Steps.MakingTables.{making, Creates, IsKnownDefinition, Makes, HasOnlyMeta, with_label}
use Rattle.pid_tables.proofs.OfRows.SetLemmas.{all_with, text_set}
use Rattle.pid_tables.proofs.OfRows.WriteLemmas.{went, same_value}

abbrev Empty : Trees → Table → Type 0
Empty db t = db t.tree ≡ []

kept_empty : (ts : List Table) (old new : Trees) → KeepsRows ts old new → AllByRecursion (Empty old) ts → AllByRecursion (Empty new) ts
kept_empty [] old new keeps empty = tt
kept_empty (t ∷ ts) old new keeps empty = (keeps.0 ∙ empty.0, kept_empty ts old new keeps.1 empty.1)

pub fold_on : (ts : List Table) (s : Schema) (t : Table) → fold created s (ts ++ t ∷ []) ≡ created (fold created s ts) t
fold_on [] s t = refl
fold_on (u ∷ ts) s t = fold_on ts (created s u) t

-- ---- a text that is known

module _ (text : List ℕ) where
  pub command_is : (r : Result Compiled CompileError) → IsKnownDefinition text r → command_of r ≡ CreateTable
  command_is (Ok c) h = h.0
  command_is (Err e) h = absurd h

  pub whole_is : (r : Result Compiled CompileError) → IsKnownDefinition text r → statement_of text r ≡ text
  whole_is (Ok c) h = h.3
  whole_is (Err e) h = absurd h

  pub plain_is : (r : Result Compiled CompileError) → IsKnownDefinition text r → IsPlain r
  plain_is (Ok c) h = (h.1, h.2)
  plain_is (Err e) h = absurd h

pub one_more : (ts : List Table) (text : List ℕ) (table : Table) → Creates ts text table → (making ts).tables ≡ ts → (old new : State) (count : ℕ) → AreMade ts old.now → Executes text [] old new (Ok count)
    → AreMade (ts ++ table ∷ []) new.now
one_more ts text table it tables old new count made h =
    let w = subst (λ t. Writes old new None CreateTable t [] count) (whole_is text _ it.known) (runs_as text [] old new (making ts) made.schema CreateTable (command_is text _ it.known) (plain_is text _ it.known) count h) in
    let all = went w.changed in
    let first = went all.1 in
    let makes = first.1 in
    let both : Ok makes.table ≡ Ok (record table { tree = 0 }) = sym makes.defined ∙ it.defined in
    let same : makes.table ≡ record table { tree = 0 } = same_value both in
    let schema : first.0.schema ≡ created (making ts) (record table { tree = 0 }) = makes.is ∙ ap (λ s. created s makes.table) made.schema ∙ ap (created (making ts)) same in
    let plain : lacks_sequence first.0.schema ≡ false = ap lacks_sequence schema ∙ it.alone in
    let now : new.now ≡ first.0 = ap (λ (p : Tally × Database). p.1) (same_value all.2) ∙ same_value (rw plain at first.2) in
    let keeps : KeepsRows ts old.now.trees first.0.trees = subst (λ l. KeepsRows l old.now.trees first.0.trees) (ap (λ (s : Schema). s.tables) made.schema ∙ tables) makes.others in
    let empty : first.0.trees table.tree ≡ [] = subst (λ n. first.0.trees n ≡ []) (ap next_tree made.schema ∙ it.tree) makes.empty in
    subst (AreMade (ts ++ table ∷ [])) (sym now) (record {
      schema = schema ∙ sym (fold_on ts no_schema table);
      sound = subst IsDatabase now w.sound;
      empty = all_with (Empty first.0.trees) ts table (kept_empty ts old.now.trees first.0.trees keeps made.empty) empty;
    })

-- one CREATE TABLE inside a transaction
pub made_one : {X : Type 0} (ts : List Table) (text : List ℕ) (table : Table) (r : Result X TableFault) (old new : State) → Creates ts text table → (making ts).tables ≡ ts → GoesOn old new r
    → (HasCleanDisk new → IsTrue old.in_transaction → OnOk r ((count : ℕ) × Executes text [] old new (Ok count)))
    → (HasCleanDisk new → (schema : Schema) → (IsTrue old.is_open → old.now.schema ≡ schema) → IsWriteAs text (understood schema text) → IfErr r IsMemoryOrStore) → Makes old new r ts (ts ++ table ∷ [])
made_one ts text table (Ok x) old new it tables goes ran only_store clean inside made = let h = ran clean inside in one_more ts text table it tables old new h.0 (made (goes.was_open clean (goes.going clean inside).0)) h.1
made_one ts text table (Err e) old new it tables goes ran only_store clean inside made = only_store clean (making ts) (λ opened. (made opened).schema) (create_writes (making ts) text _ (command_is text _ it.known) (plain_is text _ it.known) (whole_is text _ it.known) it.defined)

-- ---- the first rows

no_rows : {K V : Type 0} (row : ℤ → K → V → Row) (rows : List Row) → rows ≡ [] → RowsAre row (λ _. None) rows
no_rows row rows none = subst (RowsAre row (λ _. None)) (sym none) (record { ordered = tt; sound = λ r h. absurd h; complete = λ k v e. absurd (let bad : ⊥ = cc in bad) })

pub all_made : (db : Database) → AreMade (meta ∷ account ∷ item ∷ submission ∷ remark ∷ receipt ∷ item_since ∷ []) db → HasOnlyMeta (λ _. None) db
all_made db made = record {
  schema = made.schema;
  sound = made.sound;
  meta = no_rows meta_row (db.trees 0) made.empty.0;
  accounts = made.empty.1.0;
  items = made.empty.1.1.0;
  submissions = made.empty.1.1.1.0;
  remarks = made.empty.1.1.1.1.0;
  receipts = made.empty.1.1.1.1.1.0;
  sinces = made.empty.1.1.1.1.1.1.0;
}

pub label_added : (old new : State) (m : Map (List ℕ) ℕ) (label : List ℕ) (value : ℕ) → HasOnlyMeta m old.now → m label ≡ None → Ran insert_meta (Text label ∷ number value ∷ []) old new → HasOnlyMeta (with_label label value m) new.now
label_added old new m label value has none ran =
    let w = map_added meta_row by_first _ meta_found m label pid_schema meta 0 refl meta_plain old new has.schema has.meta insert_meta pair_terms 3 (insert_meta_is Two)
    (number value ∷ []) (Null ∷ Text label ∷ number value ∷ []) refl value
    (λ rs. (next_rowid rs, ap (λ r. numbered Chosen rs (r ∷ [])) (meta_cast Null label value ∙ ap (λ x. x ∷ Text label ∷ number value ∷ []) cast_null)))
    _ (text_set m label (Some value)) ran.0 none ran.1 in
    record {
      schema = w.schema_is;
      sound = w.sound;
      meta = w.rows;
      accounts = w.others.1.0 (λ e. omega arith) ∙ has.accounts;
      items = w.others.1.1.0 (λ e. omega arith) ∙ has.items;
      submissions = w.others.1.1.1.0 (λ e. omega arith) ∙ has.submissions;
      remarks = w.others.1.1.1.1.0 (λ e. omega arith) ∙ has.remarks;
      receipts = w.others.1.1.1.1.1.0 (λ e. omega arith) ∙ has.receipts;
      sinces = w.others.1.1.1.1.1.1.0 (λ e. omega arith) ∙ has.sinces;
    }

-- no account, no item, nothing
abbrev pub nothing_yet : Views
nothing_yet = record { rank = λ _. None; submits = []; state = λ _. Pending; remarks = λ _. []; items = []; kept = λ _ _. None; revision = 0; since = λ _. 0 }

pub shows_nothing : (db : Database) → HasOnlyMeta (meta_of (record { items = 0; submissions = 0 }) 0) db → ShowsCounting (record { items = 0; submissions = 0 }) db nothing_yet
shows_nothing db has = record {
  schema = has.schema;
  sound = has.sound;
  views = record { sorted = refl; paths = tt; pending = λ n none. refl };
  meta = has.meta;
  accounts = no_rows _ (db.trees 2) has.accounts;
  items = no_rows _ (db.trees 4) has.items;
  submissions = none_there _ _ (db.trees 6) standing_none has.submissions;
  remarks = none_there _ _ (db.trees 7) remark_none has.remarks;
  receipts = no_rows _ (db.trees 9) has.receipts;
  sinces = no_rows _ (db.trees 11) has.sinces;
}
  where
    none_there : {K V : Type 0} (row : ℤ → K → V → Row) (m : Map K V) (rows : List Row) → ((k : K) → m k ≡ None) → rows ≡ [] → RowsAre row m rows
    none_there row m rows nowhere none =
        subst (RowsAre row m) (sym none) (record { ordered = tt; sound = λ r h. absurd h; complete = λ k v e. absurd (let both = sym (nowhere k) ∙ e in let bad : ⊥ = cc in bad) })

    standing_none : (n : ℕ) → standing_in nothing_yet n ≡ None
    standing_none zero = refl
    standing_none (suc n) = refl

    remark_none : (at : ℕ × ℕ) → remark_in nothing_yet at ≡ None
    remark_none at = nowhere at.1
      where
        nowhere : (n : ℕ) → counted_from_one n (nothing_yet.remarks at.0) ≡ None
        nowhere zero = refl
        nowhere (suc n) = refl
