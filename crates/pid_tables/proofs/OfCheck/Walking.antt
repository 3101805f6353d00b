-- A walk over the rows of a table, row by row.
use Rattle.std.proofs.Common.{◌≡◌, inl, inr, List, [], ◌∷◌, ◌++◌, false, IsTrue, Ok, Err, Result, MatchResult, IfErr, OnOk, OnErr, ℕ, sym, ap, subst, ◌∙◌}
use Rattle.sqlite.specs.Effect.{Database}
use Rattle.sqlite.specs.Order.{Row}
use Rattle.sqlite.specs.State.{State, HasCleanDisk, IsUnchanged, Survives, FailsToQuery, CommitsShowing, Shown}
use Rattle.sqlite.specs.Held.{Held, state}
use Rattle.sqlite.specs.Given.{HasGiven, HasBegun, IsRefused, FailsToAdvance}
use Rattle.sqlite.specs.declared.error.Error.{Error}
use Rattle.sqlite.proofs.StateLemmas.{survives_then, survives_weaker}
use Rattle.sqlite.proofs.Callers.{unchanged_then}
use Rattle.sqlite_trees.specs.declared.store.Store.{Ghosts}
use Rattle.pid_tables.specs.Rows.Faults.{IsMemoryOrStore}
use Rattle.pid_tables.specs.Rows.Steps.Faults.{fault_of_sql}
use Rattle.pid_tables.specs.Rows.Leaves.{OnlyReads}
use Rattle.pid_tables.specs.declared.rows.fault.TableFault.{TableFault}
use Rattle.pid_tables.proofs.OfRows.FaultLemmas.{only_store}
use Rattle.pid_tables.proofs.OfRows.GoingLemmas.{earlier}
use Rattle.pid_tables.proofs.OfRows.OnlyReading.{Keeps, keeps_same, keeps_back, keeps_then, rests_on}
use Rattle.pid_tables.proofs.OfRows.ReadLemmas.{fails_to_query}
use Rattle.pid_tables.specs.Check.Queries.{query_of}
use Rattle.pid_tables.specs.Check.Shapes.{CanBeAsked, ShowsRows}
use Rattle.pid_tables.specs.declared.check.schema.Table.{Table}
use Rattle.pid_tables.proofs.OfCheck.Labels.{asked_plain, commits_none, returns_none, rows_shown}

-- the keeper took the rows that were given
pub record HasKept {S K : Type 0} (g : Ghosts S) (keeps : K → List Row → Type 0) (table : Table) (old now : Held S) (before keeper : K) : Type 0 where
  pub settled : now.in_transaction ≡ false
  pub survives : Survives (state g old) (state g now) (λ _. ⊥)
  pub given : HasCleanDisk (state g now) → (rows : List Row) × HasGiven g (query_of table) [] now rows × IsUnchanged (state g old) (state g now) × (keeps before [] → keeps keeper rows)

module _ {S : Type 0} (g : Ghosts S) (table : Table) where
  abbrev pub sql : List ℕ
  sql = query_of table

  survives_query : (old new : State) → Survives old new (CommitsShowing sql [] old) → Survives old new (λ _. ⊥)
  survives_query old new survives = survives_weaker old new _ _ (λ _ db h. commits_none table old db h) survives

  keeps_failed : (old new : State) (e : Error) → FailsToQuery sql [] old new e → Keeps old new
  keeps_failed old new e h = elim (fails_to_query sql [] old new e h) [ inl same ↦ keeps_same old new same | inr back ↦ keeps_back old new back ]

  -- a query that can be asked is no damage
  fault_told : (old new : State) (e : Error) (d : Database) → old.now ≡ d → CanBeAsked d.schema sql → FailsToQuery sql [] old new e → IsMemoryOrStore (fault_of_sql e)
  fault_told old new e d is asked h = only_store sql [] old new (ap (λ (x : Database). x.schema) is) (asked_plain table d.schema asked) e (inl h)

  -- a query that did not begin
  pub refused : {X : Type 0} (text : List ℕ) (old new : Held S) (r : Result X Error) (e : Error) → text ≡ sql → r ≡ Err e → (IsTrue (state g new).is_open → HasCleanDisk (state g new)) → old.in_transaction ≡ false → OnErr r (IsRefused g text [] old r new)
      → OnlyReads (state g old) (state g new)
  refused text old new r e same is law settled told =
      let h = subst (λ t. IsRefused g t [] old r new) same (subst (λ x. OnErr x (IsRefused g text [] old r new)) is told) in
      rests_on (state g old) (state g new) law (survives_query (state g old) (state g new) h.survives) (h.mode settled)
      (λ clean. keeps_failed (state g old) (state g new) e (subst (λ r. IfErr r (FailsToQuery sql [] (state g old) (state g new))) is (h.err clean)))

  pub refused_told : {X : Type 0} (text : List ℕ) (old new : Held S) (r : Result X Error) (e : Error) → text ≡ sql → r ≡ Err e → OnErr r (IsRefused g text [] old r new) → HasCleanDisk (state g new) → (d : Database) → (state g old).now ≡ d → CanBeAsked d.schema (query_of table)
      → IsMemoryOrStore (fault_of_sql e)
  refused_told text old new r e is_text is told clean d same asked =
      let h = subst (λ t. IsRefused g t [] old r new) is_text (subst (λ x. OnErr x (IsRefused g text [] old r new)) is told) in
      fault_told (state g old) (state g new) e d same asked (subst (λ r. IfErr r (FailsToQuery sql [] (state g old) (state g new))) is (h.err clean))

  module _ {K : Type 0} (keeps : K → List Row → Type 0) (old : Held S) (before : K) where
    -- the query began
    pub begun : (text : List ℕ) (new : Held S) → text ≡ sql → new.in_transaction ≡ false → Survives (state g old) (state g new) (CommitsShowing text [] (state g old)) → (HasCleanDisk (state g new) → HasBegun g text [] old new) → HasKept g keeps table old new before before
    begun text new same ended survives begins = record {
      settled = ended;
      survives = survives_query (state g old) (state g new) (subst (λ t. Survives (state g old) (state g new) (CommitsShowing t [] (state g old))) same survives);
      given = λ clean. elim (subst (λ t. HasBegun g t [] old new) same (begins clean)) [
        | inl h ↦ ([], h.0, h.1, λ it. it)
        | inr h ↦ absurd (returns_none table old.schema h.0)
      ];
    }

    -- a step on
    stepped : (mid new : Held S) (keeper : K) → HasKept g keeps table old mid before keeper → Survives (state g mid) (state g new) (λ _. ⊥) → Survives (state g old) (state g new) (λ _. ⊥)
    stepped mid new keeper w s = survives_then (state g old) (state g mid) (state g new) _ _ (λ _. ⊥) (λ _ db none. none) (λ _ db none. none) w.survives s

    -- and what it leaves
    pub walked_rests : (mid new : Held S) (keeper : K) → HasKept g keeps table old mid before keeper → (IsTrue (state g new).is_open → HasCleanDisk (state g new)) → Survives (state g mid) (state g new) (λ _. ⊥) → new.in_transaction ≡ false
        → (HasCleanDisk (state g new) → Keeps (state g mid) (state g new)) → OnlyReads (state g old) (state g new)
    walked_rests mid new keeper w law s settled keeps = rests_on (state g old) (state g new) law (stepped mid new keeper w s) settled
        (λ clean. keeps_then (state g old) (state g mid) (state g new) (w.given (earlier (state g mid) (state g new) s clean)).2 (keeps clean))

    pub walk_rests : (mid : Held S) (keeper : K) → HasKept g keeps table old mid before keeper → (IsTrue (state g mid).is_open → HasCleanDisk (state g mid)) → OnlyReads (state g old) (state g mid)
    walk_rests mid keeper w law = rests_on (state g old) (state g mid) law w.survives w.settled (λ clean. keeps_same (state g old) (state g mid) (w.given clean).2)

    -- one more row was kept
    pub one_more : {E : Type 0} (mid new : Held S) (keeper after : K) (row : Row) (r : Result (Unit {0}) E) (x : Unit {0}) → HasKept g keeps table old mid before keeper → Survives (state g mid) (state g new) (λ _. ⊥) → new.in_transaction ≡ false
        → (HasCleanDisk (state g new) → IsUnchanged (state g mid) (state g new)) → (HasCleanDisk (state g new) → (rows : List Row) → HasGiven g (query_of table) [] mid rows → HasGiven g (query_of table) [] new (rows ++ row ∷ []))
        → r ≡ Ok x → ((rows : List Row) → keeps keeper rows → OnOk r (keeps after (rows ++ row ∷ []))) → HasKept g keeps table old new before after
    one_more mid new keeper after row r x w s settled same gives is kept = record {
      settled = settled;
      survives = stepped mid new keeper w s;
      given = λ clean.
          let was = w.given (earlier (state g mid) (state g new) s clean) in
          (was.0 ++ row ∷ [], gives clean was.0 was.1, unchanged_then (state g old) (state g mid) (state g new) was.2 (same clean), λ it. subst (λ r. OnOk r (keeps after (was.0 ++ row ∷ []))) is (kept was.0 (was.3 it)));
    }

    -- no row is left
    pub all_kept : (mid new : Held S) (keeper : K) → HasKept g keeps table old mid before keeper → Survives (state g mid) (state g new) (λ _. ⊥) → (HasCleanDisk (state g new) → IsUnchanged (state g mid) (state g new))
        → (HasCleanDisk (state g new) → (rows : List Row) → HasGiven g (query_of table) [] mid rows → Shown sql [] (state g mid) (state g new) rows) → HasCleanDisk (state g new) → (d : Database) → (state g old).now ≡ d
        → ((rows : List Row) × ShowsRows d (query_of table) rows × (keeps before [] → keeps keeper rows)) × ((state g new).now ≡ d)
    all_kept mid new keeper w s same gives clean d is =
        let was = w.given (earlier (state g mid) (state g new) s clean) in
        let here : (state g mid).now ≡ d = was.2.0.now_is ∙ is in
        let shown = rows_shown table (state g mid) (state g new) was.0 (gives clean was.0 was.1) in
        ((was.0, subst (λ (x : Database). ShowsRows x (query_of table) was.0) here shown, was.3), (same clean).0.now_is ∙ here)

    -- a step that failed is no damage
    pub step_told : (mid new : Held S) (keeper : K) → HasKept g keeps table old mid before keeper → Survives (state g mid) (state g new) (λ _. ⊥) → HasCleanDisk (state g new) → (d : Database) → (state g old).now ≡ d → CanBeAsked d.schema (query_of table)
        → (e : Error) → FailsToAdvance g mid new e → IsMemoryOrStore (fault_of_sql e)
    step_told mid new keeper w s clean d is asked e fails =
        let was = w.given (earlier (state g mid) (state g new) s clean) in
        fault_told (state g mid) (state g new) e d (was.2.0.now_is ∙ is) asked (fails sql [] was.0 was.1)

-- a fault that is passed on
pub failed_so : {X : Type 0} (Says : X → Type 0) (r : Result X TableFault) (y fault : TableFault) → r ≡ Err y → y ≡ fault → IsMemoryOrStore fault → MatchResult r Says IsMemoryOrStore
failed_so Says r y fault is same h = subst (λ r. MatchResult r Says IsMemoryOrStore) (sym (is ∙ ap Err same)) h
