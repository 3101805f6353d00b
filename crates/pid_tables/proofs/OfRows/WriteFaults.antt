-- Which faults a write may give on tables of a schema.
use Rattle.std.proofs.Common.{◌≡◌, inl, inr, ℕ, ℤ, List, [], fold, Bool, true, false, slice_get, Option, Some, None, Ok, Err, Result, IfErr, MatchResult, OnOk, IsTrue, refl, sym, subst, ◌∙◌}
use Rattle.std.proofs.lemmas.Bool.{cases_Bool}
use Rattle.std.specs.Prelude.{MatchBool, option_map, if◌then◌else◌}
use Rattle.std.specs.Ordering.{is_lt, int_cmp}
use Rattle.sqlite.specs.Order.{Row}
use Rattle.sqlite.specs.Tree.{Trees}
use Rattle.sqlite.specs.Table.{Table}
use Rattle.sqlite.specs.Listing.{understood}
use Rattle.sqlite.specs.Clock.{timed}
use Rattle.sqlite.specs.Compile.{table_defined_by}
use Rattle.sqlite_tied.specs.Compute.{everything}
use Rattle.sqlite_catalog.specs.declared.error.Refusal.TheVariants as why
use Rattle.sqlite.specs.Command.{Command}
use Rattle.sqlite.specs.Command.TheVariants.{Insert, Update, Delete, CreateTable}
use Rattle.sqlite.specs.Source.{Source}
use Rattle.sqlite.specs.Source.TheVariants.{Values, Query}
use Rattle.sqlite.specs.Edit.{Edit, edit_of}
use Rattle.sqlite_rules.specs.Calls.{ids_of}
use Rattle.sqlite_rules.specs.declared.error.Rowids.TheVariants.{Given}
use Rattle.sqlite.specs.declared.run.Mode.{Mode}
use Rattle.sqlite.specs.declared.error.Error.{Error}
use Rattle.sqlite.specs.declared.error.Error.TheVariants.{SqliteFailure, InvalidQuery, ExecuteReturnedResults}
use Rattle.sqlite.specs.declared.error.ErrorCode.TheVariants as code
use Rattle.sqlite.specs.Effect.{Database, RefusesQuery, RefusesSource, edit_error}
use Rattle.sqlite.specs.Rows.{Outcome, Gives, Then, Queried, Sourced, Edited, Counter, CounterIn, Counts, CountsIn, Inserts, Updates, Deletes, Task, Written, sequence, stamped, rowids_for, count_of, higher}
use Rattle.sqlite.specs.Does.{Does, AtPlace, OnRows, Concludes, Tally, MakesTable, MakesSequence, Defines, sequence_text, lacks_sequence}
use Rattle.sqlite.specs.State.{State, RunsCommand, shows_rows, ExecutesInside, ExecutesIn, text_of, mode_of}
use Rattle.sqlite.proofs.Callers.{IsPlain, command_of, statement_of}
use Rattle.sqlite_resolve.specs.declared.compiled.Compiled.{Compiled}
use Rattle.sqlite_resolve.specs.declared.error.CompileError.{CompileError}
use Rattle.sqlite_rules.specs.declared.error.Refusal.{Refusal}
use Rattle.sqlite_rules.specs.declared.error.Refusal.TheVariants.{Violates, Mismatch, NoRowid, BadReference, TooDeep}
use Rattle.sqlite_schema.specs.declared.program.Program.{Program}
use Rattle.sqlite_schema.specs.declared.schema.Constraint.TheVariants.{ForeignKey}
use Rattle.sqlite_schema.specs.declared.schema.Keys.{Keys}
use Rattle.sqlite_schema.specs.declared.schema.Schema.{Schema}
use Rattle.pid_tables.specs.declared.rows.fault.TableFault.{TableFault}
use Rattle.pid_tables.specs.Rows.Faults.{IsMemoryOrStore}
use Rattle.pid_tables.specs.Rows.Steps.Faults.{fault_of_sql}
use Rattle.pid_tables.specs.Rows.Steps.Queries.{IsWrite, IsWriteAs}
use Rattle.pid_tables.proofs.OfRows.FaultLemmas.{failed, of_store, moved, not_run}
use Rattle.pid_tables.proofs.OfRows.Statements.{IsInsert, IsUpdate, IsDelete}
use Rattle.sqlite.specs.Term.{Term}

-- a part that stops where the whole refuses has refused so
stopped : {A : Type 0} (e : Error) (P : Option Error → Type 0) (stop : Option Error) → ((x : Error) → P (Some x) → IsMemoryOrStore (fault_of_sql x)) → P stop → ◌≡◌ {A = Result A (Option Error)} (Err (Some e)) (Err stop) → IsMemoryOrStore (fault_of_sql e)
stopped e P stop told h same = let is : stop ≡ Some e = cc in told e (subst P is h)

no_value : {A : Type 0} {Q : Type 0} (stop : Option Error) (a : A) → ◌≡◌ {A = Result A (Option Error)} (Err stop) (Ok a) → Q
no_value stop a h = absurd (let bad : ⊥ = cc in bad)

refused : {A : Type 0} (e f : Error) → ◌≡◌ {A = Result A (Option Error)} (Err (Some e)) (Err (Some f)) → IsMemoryOrStore (fault_of_sql f) → IsMemoryOrStore (fault_of_sql e)
refused e f h only_store = let same : e ≡ f = cc in moved e f same only_store

either : {P Q U : Type 0} (b : Bool) → (P → U) → (Q → U) → MatchBool b P Q → U
either true p q h = p h
either false p q h = q h

query_told : (limit : Option ℕ) (db : Database) (q : Program) (params : Row) (e : Error) → RefusesQuery limit db q params e → IsMemoryOrStore (fault_of_sql e)
query_told limit db q params e (inl h) = moved e _ h.0 (failed code.TypeMismatch)
query_told limit db q params e (inr (inl h)) = moved e _ h.0 (failed code.IntegerOverflow)
query_told limit db q params e (inr (inr h)) = moved e _ h.0 (failed code.OperationInterrupted)

source_told : (limit : Option ℕ) (db : Database) (params : Row) (from : Source) (e : Error) → RefusesSource limit db params from e → IsMemoryOrStore (fault_of_sql e)
source_told limit db params (Values terms width) e (inl h) = moved e _ h.0 (failed code.TypeMismatch)
source_told limit db params (Values terms width) e (inr h) = moved e _ h.0 (failed code.OperationInterrupted)
source_told limit db params (Query q) e h = query_told limit db q params e h

refusal_told : (r : Refusal) → IsMemoryOrStore (fault_of_sql (edit_error r))
refusal_told (Violates rule) = failed (code.ConstraintViolation rule)
refusal_told Mismatch = failed code.TypeMismatch
refusal_told BadReference = failed code.ForeignKeyMismatch
refusal_told NoRowid = failed code.NoRowid
refusal_told TooDeep = failed code.TooDeep

why_told : (why : Option Refusal) (e : Error) → Some e ≡ option_map edit_error why → IsMemoryOrStore (fault_of_sql e)
why_told None e same = absurd (let bad : ⊥ = cc in bad)
why_told (Some r) e same = let is : e ≡ edit_error r = cc in moved e _ is (refusal_told r)

edit_told : (schema : Schema) (keys : Keys) (db : Trees) (edit : Edit) (e : Error) → Edited schema keys db edit (Err (Some e)) → IsMemoryOrStore (fault_of_sql e)
edit_told schema keys db edit e h = why_told h.0 e h.2

module _ (task : Task) where
  open task use {limit, keys, schema, table, params}

  at : Trees → Database
  at db = record { schema = task.schema; trees = db }

  counter_in_told : (db : Trees) (o : Option Table) (e : Error) → CounterIn task db o (Err (Some e)) → IsMemoryOrStore (fault_of_sql e)
  counter_in_told db None e h = refused e InvalidQuery h tt
  counter_in_told db (Some counters) e h = no_value _ _ h

  counter_told : (db : Trees) (e : Error) → Counter task db (Err (Some e)) → IsMemoryOrStore (fault_of_sql e)
  counter_told db e h = either table.is_counted (counter_in_told db (sequence schema) e) (λ k. no_value _ _ k) h

  counts_in_told : (db : Trees) (counter : Option Row) (top : ℤ) (o : Option Table) (e : Error) → CountsIn task db counter top o (Err (Some e)) → IsMemoryOrStore (fault_of_sql e)
  counts_in_told db counter top None e h = refused e InvalidQuery h tt
  counts_in_told db counter top (Some counters) e h = edit_told _ _ _ _ e h

  counts_told : (db : Trees) (counter : Option Row) (top : ℤ) (e : Error) → Counts task db counter top (Err (Some e)) → IsMemoryOrStore (fault_of_sql e)
  counts_told db counter top e h = either (if table.is_counted then is_lt (int_cmp (count_of counter) top) else false) (counts_in_told db counter top (sequence schema) e) (unchanged db e) h
    where
      unchanged : (db : Trees) (e : Error) → Gives db (Err (Some e)) → IsMemoryOrStore (fault_of_sql e)
      unchanged db e k = no_value _ _ k

  inserts_told : (from : Source) (db : Trees) (e : Error) → Inserts task from db (Err (Some e)) → IsMemoryOrStore (fault_of_sql e)
  unfolding at
  inserts_told from db e (inl h) = stopped e (λ s. Sourced limit (at db) (stamped table params) from (Err s)) h.0 (source_told limit (at db) (stamped table params) from) h.1 h.2
  inserts_told from db e (inr (rows, given, inl h)) = stopped e (λ s. Counter task db (Err s)) h.0 (counter_told db) h.1 h.2
  inserts_told from db e (inr (rows, given, inr (counter, counted, inl h))) =
      let edit = edit_of db table [] (rowids_for table (count_of counter)) 0 rows in
      stopped e (λ s. Edited schema keys db edit (Err s)) h.0 (edit_told schema keys db edit) h.1 h.2
  inserts_told from db e (inr (rows, given, inr (counter, counted, inr (mid, made, inl h)))) =
      let top = fold higher (count_of counter) (edit_of db table [] (rowids_for table (count_of counter)) 0 rows).news in
      stopped e (λ s. Counts task mid counter top (Err s)) h.0 (counts_told mid counter top) h.1 h.2
  inserts_told from db e (inr (rows, given, inr (counter, counted, inr (mid, made, inr (next, noted, h))))) = no_value _ _ h

  updates_told : (q : Program) (given : Row) (db : Trees) (e : Error) → Updates task q given db (Err (Some e)) → IsMemoryOrStore (fault_of_sql e)
  unfolding at
  updates_told q given db e (inl h) = stopped e (λ s. Queried limit (at db) q given (Err s)) h.0 (query_told limit (at db) q given) h.1 h.2
  updates_told q given db e (inr (rows, found, inl h)) =
      let edit = edit_of db table (ids_of rows) Given 1 rows in
      stopped e (λ s. Edited schema keys db edit (Err s)) h.0 (edit_told schema keys db edit) h.1 h.2
  updates_told q given db e (inr (rows, found, inr (next, made, h))) = no_value _ _ h

  deletes_told : (q : Program) (db : Trees) (e : Error) → Deletes task q db (Err (Some e)) → IsMemoryOrStore (fault_of_sql e)
  unfolding at
  deletes_told q db e (inl h) = stopped e (λ s. Queried limit (at db) q params (Err s)) h.0 (query_told limit (at db) q params) h.1 h.2
  deletes_told q db e (inr (rows, found, inl h)) =
      let edit = edit_of db table (ids_of rows) Given 0 [] in
      stopped e (λ s. Edited schema keys db edit (Err s)) h.0 (edit_told schema keys db edit) h.1 h.2
  deletes_told q db e (inr (rows, found, inr (next, made, h))) = no_value _ _ h

  concludes_told : (mode : Mode) (w : Written) (e : Error) → Concludes task mode None w (Err (Some e)) → IsMemoryOrStore (fault_of_sql e)
  concludes_told mode w e (inl h) =
      let broken = SqliteFailure (code.ConstraintViolation ForeignKey) in
      let is : h.0 ≡ Some e = (let same = h.2 in cc) in
      let same : e ≡ broken = (let why = h.1.1 in cc) in
      moved e broken same (failed (code.ConstraintViolation ForeignKey))
  concludes_told mode w e (inr (doubt, tested, inl h)) = no_value _ _ h.1
  concludes_told mode w e (inr (doubt, tested, inr (rows, none, h))) = no_value _ _ h

  rows_told : (mode : Mode) (P : Outcome Written → Type 0) → ((e : Error) → P (Err (Some e)) → IsMemoryOrStore (fault_of_sql e)) → (e : Error) → Then P (Concludes task mode None) (Err (Some e)) → IsMemoryOrStore (fault_of_sql e)
  rows_told mode P told e (inl h) = stopped e (λ s. P (Err s)) h.0 told h.1 h.2
  rows_told mode P told e (inr h) = concludes_told mode h.0 e h.2

at_place : (P : Table → Outcome (Tally × Database) → Type 0) (o : Option Table) (e : Error) → ((t : Table) → P t (Err (Some e)) → IsMemoryOrStore (fault_of_sql e)) → AtPlace P o (Err (Some e)) → IsMemoryOrStore (fault_of_sql e)
at_place P None e told h = refused e InvalidQuery h tt
at_place P (Some t) e told h = told t h

-- ---- a table that is made

made_told : (text : List ℕ) (db : Database) (e : Error) → (table : Table) × (table_defined_by text ≡ Ok table) → MakesTable text db (Err (Some e)) → IsMemoryOrStore (fault_of_sql e)
made_told text db e defined (inl h) = moved e _ h.1 (failed code.BadName)
made_told text db e defined (inr (why.Invalid x, refuses, is)) = absurd (let both = sym defined.1 ∙ refuses in let bad : ⊥ = cc in bad)
made_told text db e defined (inr (why.NameTaken, refuses, is)) = moved e _ is (failed code.NameTaken)
made_told text db e defined (inr (why.BadName, refuses, is)) = moved e _ is (failed code.BadName)
made_told text db e defined (inr (why.BadKey, refuses, is)) = moved e _ is (failed code.BadKey)
made_told text db e defined (inr (why.BadText, refuses, is)) = moved e _ is (failed code.BadText)
made_told text db e defined (inr (why.TooBig, refuses, is)) = moved e _ is (failed code.SchemaTooBig)
made_told text db e defined (inr (why.Violates rule, refuses, is)) = absurd refuses

sequence_defined : (table : Table) × (table_defined_by sequence_text ≡ Ok table)
unfolding everything
sequence_defined = (_, refl)

sequence_told : (db : Database) (e : Error) → MakesSequence db (Err (Some e)) → IsMemoryOrStore (fault_of_sql e)
sequence_told db e h = either (lacks_sequence db.schema) (made_told sequence_text db e sequence_defined) (λ k. no_value _ _ k) h

module _ (limit : Option ℕ) (mode : Mode) (params : Row) (db : Database) (text : List ℕ) where
  abbrev job : Table → Task
  job table = record { limit = limit; keys = mode.keys; schema = db.schema; table = table; params = params }

  both_told : (table : Table) × (table_defined_by text ≡ Ok table) → (e : Error) → Then (MakesTable text db) MakesSequence (Err (Some e)) → IsMemoryOrStore (fault_of_sql e)
  both_told defined e (inl h) = stopped e (λ s. MakesTable text db (Err s)) h.0 (λ x. made_told text db x defined) h.1 h.2
  both_told defined e (inr h) = sequence_told h.0 e h.2

  creates_told : (table : Table) × (table_defined_by text ≡ Ok table) → (e : Error) → Defines mode (Then (MakesTable text db) MakesSequence) (Err (Some e)) → IsMemoryOrStore (fault_of_sql e)
  creates_told defined e (inl h) = stopped e (λ s. Then (MakesTable text db) MakesSequence (Err s)) h.0 (both_told defined) h.1 h.2
  creates_told defined e (inr h) = no_value _ _ h.2

  does_told : (command : Command) → IsWrite text command → (e : Error) → Does limit mode params db text None command (Err (Some e)) → IsMemoryOrStore (fault_of_sql e)
  does_told (Insert at from) w e h =
      at_place (λ t. OnRows (job t) mode None (Insert at from) db.trees) (slice_get db.schema.tables at) e (λ t. rows_told (job t) mode (Inserts (job t) from db.trees) (inserts_told (job t) from db.trees) e) h
  does_told (Update at q) w e h =
      at_place (λ t. OnRows (job t) mode None (Update at q) db.trees) (slice_get db.schema.tables at) e (λ t. rows_told (job t) mode (Updates (job t) q params db.trees) (updates_told (job t) q params db.trees) e) h
  does_told (Delete at q) w e h =
      at_place (λ t. OnRows (job t) mode None (Delete at q) db.trees) (slice_get db.schema.tables at) e (λ t. rows_told (job t) mode (Deletes (job t) q db.trees) (deletes_told (job t) q db.trees) e) h
  does_told CreateTable w e h = creates_told w e h
  does_told _ w e h = absurd w

known_write : (sql : List ℕ) (r : Result Compiled CompileError) (c : Compiled) → r ≡ Ok c → IsWriteAs sql r → (c.returning ≡ None) × IsWrite (text_of sql c) c.command
known_write sql (Ok d) c is h = let same : d ≡ c = cc in subst (λ x. (x.returning ≡ None) × IsWrite (text_of sql x) x.command) same h
known_write sql (Err e) c is h = absurd h

never_bad : (sql : List ℕ) (r : Result Compiled CompileError) (fault : CompileError) → IsWriteAs sql r → r ≡ Err fault → ⊥
never_bad sql (Ok c) fault h e = cc
never_bad sql (Err x) fault h e = h

module _ (schema : Schema) (sql : List ℕ) (params : Row) (old new : State) (has : IsTrue old.is_open → old.now.schema ≡ schema) (write : IsWriteAs sql (understood schema sql)) (e : Error) where
  known : IsTrue old.is_open → IsWriteAs sql (understood old.now.schema sql)
  known opened = subst (λ x. IsWriteAs sql (understood x sql)) (sym (has opened)) write

  ran : (c : Compiled) (given : Row) → understood old.now.schema sql ≡ Ok c → RunsCommand old new sql c given (Err e) → IsMemoryOrStore (fault_of_sql e)
  ran c given is (inl (inl (inl misplaced), same)) = moved e _ misplaced.0 (failed code.TransactionState)
  ran c given is (inl (inl (inr unnamed), same)) = moved e _ unnamed.0 (failed code.NoSuchSavepoint)
  ran c given is (inl (inr refused, same)) =
      let it = known_write sql _ c is (known same.0.was_open) in
      does_told old.step_limit (mode_of old) given old.now (text_of sql c) c.command it.1 e (subst (λ r. Does old.step_limit (mode_of old) given old.now (text_of sql c) r c.command (Err (Some e))) it.0 refused.1)
  ran c given is (inr fails) = moved e _ fails.1 (of_store fails.0)

  runs : ExecutesIn false sql params old new (Err e) → IsMemoryOrStore (fault_of_sql e)
  unfolding ExecutesIn
  runs (inl h) = not_run sql params old new e (λ opened fault is. never_bad sql _ fault (known opened) is) h
  runs (inr h) = elim (cases_Bool (shows_rows false h.0)) [
    | inl shows ↦ let odd = (rw shows at h.2).0 in let same : e ≡ ExecuteReturnedResults = cc in moved e _ same tt
    | inr writes ↦ ran h.0 (timed params h.0.formats h.1.now) h.1.is (rw writes at h.2)
  ]

  pub write_only_store : ExecutesInside 0 sql params old new (Err e) → IsMemoryOrStore (fault_of_sql e)
  write_only_store (inl h) = runs h.0
  write_only_store (inr h) = moved e _ h.1 (failed code.TransactionState)

-- ---- which texts write

pub known_text : (sql : List ℕ) (r : Result Compiled CompileError) (command : Command) → command_of r ≡ command → IsPlain r → IsWrite (statement_of sql r) command → IsWriteAs sql r
known_text sql (Ok c) command is plain writes = (plain.0, subst (IsWrite (text_of sql c)) (sym is) writes)
known_text sql (Err e) command is plain writes = plain

pub insert_writes : {schema : Schema} {at : ℕ} {terms : List Term} {width : ℕ} {sql : List ℕ} → IsInsert schema at terms width sql → IsWriteAs sql (understood schema sql)
insert_writes {sql = sql} h = known_text sql _ _ h.is h.plain tt

pub update_writes : {schema : Schema} {at tree : ℕ} {tests change : List Term} {sql : List ℕ} → IsUpdate schema at tree tests change sql → IsWriteAs sql (understood schema sql)
update_writes {sql = sql} h = known_text sql _ _ h.is h.plain tt

pub delete_writes : {schema : Schema} {at tree : ℕ} {tests : List Term} {sql : List ℕ} → IsDelete schema at tree tests sql → IsWriteAs sql (understood schema sql)
delete_writes {sql = sql} h = known_text sql _ _ h.is h.plain tt

pub create_writes : (schema : Schema) (sql : List ℕ) (table : Table) → command_of (understood schema sql) ≡ CreateTable → IsPlain (understood schema sql) → statement_of sql (understood schema sql) ≡ sql → table_defined_by sql ≡ Ok table
    → IsWriteAs sql (understood schema sql)
create_writes schema sql table is plain whole defined = known_text sql _ _ is plain (subst (λ t. IsWrite t CreateTable) (sym whole) (table, defined))

-- the write leads on, or its fault tells nothing
pub led : {X : Type 0} {P Q : Type 0} (r : Result X TableFault) → (P → Q) → OnOk r P → IfErr r IsMemoryOrStore → MatchResult r (λ _. Q) IsMemoryOrStore
led (Ok x) f h only_store = f h
led (Err e) f h only_store = only_store

-- the same of a call that says at once what became of it
pub led_on : {X : Type 0} {P Q : Type 0} (r : Result X TableFault) → (P → Q) → MatchResult r (λ _. P) IsMemoryOrStore → MatchResult r (λ _. Q) IsMemoryOrStore
led_on (Ok x) f h = f h
led_on (Err e) f h = h
