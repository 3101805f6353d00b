-- What a statement that ran leaves, by its kind and its table, in any schema.
use Rattle.std.proofs.Common.{◌≡◌, ℕ, suc, Bool, cond, List, [], ◌∷◌, ◌++◌, slice_get, None, Some, Ok, refl, sym, ap, subst}
use Rattle.sqlite.specs.Order.{Row}
use Rattle.sqlite.specs.Table.{Table}
use Rattle.sqlite.specs.Command.TheVariants.{Insert, Update, Delete}
use Rattle.sqlite.specs.Source.{Source}
use Rattle.sqlite.specs.Schema.{Schema}
use Rattle.sqlite.specs.Edit.{Edit, edit_of, taken_by, Applies}
use Rattle.sqlite.specs.Effect.{Database, IsDatabase, Answers, IsSource}
use Rattle.sqlite.specs.Rows.{Task, Written}
use Rattle.sqlite.specs.Does.{Does, AtPlace, OnRows}
use Rattle.sqlite.specs.State.{State, mode_of, Executes}
use Rattle.sqlite.specs.Listing.{understood}
use Rattle.sqlite.proofs.Callers.{IsPlain, command_of, runs_as, statement_of}
use Rattle.sqlite_rules.specs.declared.error.Rowids.TheVariants.{Chosen, Given}
use Rattle.sqlite_rules.specs.Action.{Writes, Work, works, work_by, deed_for, pairs}
use Rattle.std.specs.Prelude.{◌==◌, ◌&&◌, length, true, false}
use Rattle.std.proofs.lemmas.Bool.{false_from_ne_true}
use Rattle.std.proofs.lemmas.Bool.Decides.{Decides-eqb}
use Rattle.sqlite.specs.Tree.{Trees}
use Rattle.sqlite_schema.specs.Names.{same_name}
use Rattle.sqlite_value.specs.Keys.{joined}
use Rattle.std.specs.List.{flat_map, filter_map, cons_option}
use Rattle.sqlite_schema.specs.Rules.{parent_key}
use Rattle.sqlite_rules.specs.Calls.{ids_of}
use Rattle.sqlite_schema.specs.declared.schema.Keys.TheVariants.{Enforced}
use Rattle.sqlite_schema.specs.declared.program.Program.{Program}
use Rattle.pid_tables.specs.declared.rows.schema_version.Version.{Version}
use Rattle.pid_tables.specs.declared.rows.schema_version.Version.TheVariants.{One, Two}
use Rattle.pid_tables.specs.Rows.Schema.{schema_of}
use Rattle.pid_tables.proofs.OfRows.WriteLemmas.{IsPlainTable, UpdatesAlone, on_rows, inserts, updates, deletes_all}

not_zero : (n : ℕ) → (suc n == 0) ≡ false
not_zero n = false_from_ne_true _ (λ same. let is = (Decides-eqb (suc n) 0).0 same in cc)

-- where no row goes, no reference of either schema acts
acts_where : (version : Version) (tree : ℕ) (b : Bool) (moves : List (Row × Row)) → b ≡ false
    → flat_map (λ child. filter_map (λ ref. work_by 0 tree moves child ref (deed_for Enforced b ref) (parent_key (schema_of version).tables ref)) child.references) (schema_of version).tables ≡ []
acts_where version tree true moves h = absurd (let bad : ⊥ = cc in bad)
acts_where One tree false moves h = refl
acts_where Two tree false moves h = refl

-- nor where no row is changed
acts_on_none : (version : Version) (tree : ℕ) → works (schema_of version) Enforced 0 tree [] [] ≡ []
unfolding same_name joined
acts_on_none One tree = refl
acts_on_none Two tree = either (4 == tree) _
  where
    either : (b : Bool) (w : Work) → cons_option (cond (b && false) (Some w) None) [] ++ [] ≡ []
    either true w = refl
    either false w = refl

pub updates_alone : (version : Version) (table : Table) (db : Trees) → UpdatesAlone (schema_of version) Enforced table db
updates_alone version table db [] = acts_on_none version table.tree
updates_alone version table db (r ∷ rows) =
    let edit = edit_of db table (ids_of (r ∷ rows)) Given 1 (r ∷ rows) in
    acts_where version table.tree (length edit.news == 0) (pairs (taken_by db edit) edit.news) (not_zero _)

module _ (schema : Schema) where
  abbrev pub job : State → Table → Row → Task
  job old table params = record { limit = old.step_limit; keys = Enforced; schema = schema; table = table; params = params }

  abbrev pub at_now : State → Database
  at_now old = record { schema = schema; trees = old.now.trees }

  -- the edit is made, in the schema that was
  pub record Makes (old new : State) (edit : Edit) : Type 0 where
    pub schema_is : new.now.schema ≡ schema
    pub sound : IsDatabase new.now
    pub applies : Applies schema Enforced old.now.trees edit new.now.trees

  -- the edit is made with all that it sets off
  pub record MakesAll (old new : State) (edit : Edit) : Type 0 where
    pub schema_is : new.now.schema ≡ schema
    pub sound : IsDatabase new.now
    pub writes : Writes schema Enforced old.now.trees edit (Ok new.now.trees)

  module _ (sql : List ℕ) (params : Row) (old new : State) (has : old.now.schema ≡ schema) (at : ℕ) (table : Table) (here : slice_get schema.tables at ≡ Some table) (plain : IsPlainTable table)
      (is_plain : IsPlain (understood schema sql)) (count : ℕ) (h : Executes sql params old new (Ok count)) where
    makes_from : (edit : Edit) (w : Written) → IsDatabase new.now → new.now ≡ record { schema = schema; trees = w.trees } → Applies schema Enforced old.now.trees edit w.trees → Makes old new edit
    makes_from edit w sound is applies =
        record { schema_is = ap (λ (d : Database). d.schema) is; sound = sound; applies = subst (λ (d : Database). Applies schema Enforced old.now.trees edit d.trees) (sym is) applies }

    pub ran_insert : (from : Source) → command_of (understood schema sql) ≡ Insert at from
        → (rows : List Row) × IsSource (at_now old) params from rows × Makes old new (edit_of old.now.trees table [] Chosen 0 rows)
    ran_insert from is =
        let command = Insert at from in
        let w = runs_as sql params old new schema has command is is_plain count h in
        let text = statement_of sql (understood schema sql) in
        let does = subst (λ s. Does old.step_limit (mode_of old) params (record old.now { schema = s }) text None command (Ok (w.tally, new.now))) has w.changed in
        let on = subst (λ o. AtPlace (λ t. OnRows (job old t params) (mode_of old) None command old.now.trees) o (Ok (w.tally, new.now))) here does in
        let done = on_rows (job old table params) (mode_of old) command old.now.trees w.tally new.now on in
        let made = inserts (job old table params) plain from old.now.trees done.0 done.1 in
        (made.0, made.1, makes_from _ done.0 w.sound done.2 made.2)

    pub ran_update : (q : Program) → command_of (understood schema sql) ≡ Update at q → UpdatesAlone schema Enforced table old.now.trees
        → (rows : List Row) × Answers (at_now old) q params rows × Makes old new (edit_of old.now.trees table (ids_of rows) Given 1 rows)
    ran_update q is none =
        let command = Update at q in
        let w = runs_as sql params old new schema has command is is_plain count h in
        let text = statement_of sql (understood schema sql) in
        let does = subst (λ s. Does old.step_limit (mode_of old) params (record old.now { schema = s }) text None command (Ok (w.tally, new.now))) has w.changed in
        let on = subst (λ o. AtPlace (λ t. OnRows (job old t params) (mode_of old) None command old.now.trees) o (Ok (w.tally, new.now))) here does in
        let done = on_rows (job old table params) (mode_of old) command old.now.trees w.tally new.now on in
        let made = updates (job old table params) plain q old.now.trees done.0 none done.1 in
        (made.0, made.1, makes_from _ done.0 w.sound done.2 made.2)

    pub ran_delete : (q : Program) → command_of (understood schema sql) ≡ Delete at q
        → (rows : List Row) × Answers (at_now old) q params rows × MakesAll old new (edit_of old.now.trees table (ids_of rows) Given 0 [])
    ran_delete q is =
        let command = Delete at q in
        let w = runs_as sql params old new schema has command is is_plain count h in
        let text = statement_of sql (understood schema sql) in
        let does = subst (λ s. Does old.step_limit (mode_of old) params (record old.now { schema = s }) text None command (Ok (w.tally, new.now))) has w.changed in
        let on = subst (λ o. AtPlace (λ t. OnRows (job old t params) (mode_of old) None command old.now.trees) o (Ok (w.tally, new.now))) here does in
        let done = on_rows (job old table params) (mode_of old) command old.now.trees w.tally new.now on in
        let made = deletes_all (job old table params) plain q old.now.trees done.0 done.1 in (
          made.0,
          made.1,
          record {
            schema_is = ap (λ (d : Database). d.schema) done.2;
            sound = w.sound;
            writes = subst (λ (d : Database). Writes schema Enforced old.now.trees (edit_of old.now.trees table (ids_of made.0) Given 0 []) (Ok d.trees)) (sym done.2) made.2;
          },
        )
