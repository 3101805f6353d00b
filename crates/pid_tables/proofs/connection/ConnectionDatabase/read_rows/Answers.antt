use Rattle.std.proofs.Common.{◌≡◌, ℕ, true, Ok, Err, Result, IfOk, IfErr, List, ◌≤◌, sym, subst, ◌∙◌, ap, IsTrue}
use Rattle.sqlite.specs.Order.{Row}
use Rattle.sqlite.specs.Values.{bound}
use Rattle.sqlite.specs.Held.{Held, state}
use Rattle.sqlite.specs.declared.transaction.Transaction.{Transaction}
use Rattle.sqlite.specs.State.{State, HasCleanDisk, Shown}
use Rattle.sqlite_trees.specs.declared.store.Store.{Ghosts}
use Rattle.sqlite.proofs.StateLemmas.{clean_if_open}
use Rattle.pid_tables.specs.Rows.Causes.{IsCaused}
use Rattle.pid_tables.specs.Rows.Leaves.{OnlyReads}
use Rattle.pid_tables.specs.declared.rows.fault.TableFault.{TableFault}
use Rattle.pid_tables.specs.declared.rows.fault.TableFault.TheVariants.{Memory, Store, NewerSchema, Damaged}
use Rattle.pid_tables.proofs.OfRows.CauseLemmas.{caused_first}
use Rattle.pid_tables.proofs.OfRows.GoingLemmas.{earlier}
use Rattle.pid_tables.proofs.OfRows.OnlyReading.{reads_begun}
use Rattle.pid_tables.specs.Rows.Steps.Clauses.{FaultsQuery}
use Rattle.pid_tables.proofs.connection.ConnectionDatabase.read_rows.Goals as goal

there : {S : Type 0} (g : Ghosts S) {X E : Type 0} (sql : List _) (params : Row) (old : State) (mid : Held S) (r : Result X E) (rows : X → List Row) → IfOk r (λ v. Shown sql params old (state g mid) (rows v))
    → IfOk r (λ v. (m : Held S) × Shown sql params old (state g m) (rows v))
there g sql params old mid (Ok v) rows h = (mid, h)
there g sql params old mid (Err e) rows h = tt

pub returns-clause-rests : goal.returns-clause-rests
returns-clause-rests g c =
    let same : c.drop-tx.new.self.0 ≡ c.self-1.given.0 = sym (c.self-1.given.1 (sym (c.read_inside.ensures.same_reference ∙ c.transaction-tx.ensures.same_reference))) in
    let end = c.drop-tx.new.self.0 in
    let first = c.read_inside.new.self.conn.now in
    let goes = rw c.transaction-tx.ensures.begun at c.read_inside.ensures.goes in
    subst (λ h. OnlyReads (state g.S.Store c.args.self.now) (state g.S.Store h)) same
    (reads_begun g.S.Store c.args.self.now first end c.read_inside.result (clean_if_open (g.S.Store.view first.store) (g.met.S.Store.shut_if_dirty first.store))
    (clean_if_open (g.S.Store.view end.store) (g.met.S.Store.shut_if_dirty end.store)) goes c.drop-tx.ensures.ended c.drop-tx.ensures.undone c.drop-tx.ensures.survives)

pub returns-clause-shown : goal.returns-clause-shown
returns-clause-shown g c clean =
    let same : c.drop-tx.new.self.0 ≡ c.self-1.given.0 = sym (c.self-1.given.1 (sym (c.read_inside.ensures.same_reference ∙ c.transaction-tx.ensures.same_reference))) in
    let late = subst (λ h. HasCleanDisk (state g.S.Store h)) (sym same) clean in
    let first = c.read_inside.new.self.conn.now in
    let mid = earlier (state g.S.Store first) (state g.S.Store c.drop-tx.new.self.0) c.drop-tx.ensures.survives late in
    there g.S.Store c.args.sql.now (bound c.args.params.now) _ first c.read_inside.result (λ v. v.items) (rw c.transaction-tx.ensures.begun at (c.read_inside.ensures.shown mid))

-- why the query faults, once the transaction is over
module _ {S : Type 0} (g : Ghosts S) {X : Type 0} (sql : List ℕ) (params : Row) (old end : Held S) (first mid : Transaction S) (begun : first.conn.now ≡ record old { in_transaction = true }) (before : HasCleanDisk (state g end) → HasCleanDisk (state g mid.conn.now)) (more : (state g mid.conn.now).faults ≤ (state g end).faults) where
  later : (r : Result X TableFault) → IfErr r (IsCaused (state g first.conn.now) (state g mid.conn.now)) → IfErr r (IsCaused (state g old) (state g end))
  later (Ok x) h = tt
  later (Err e) h = caused_first (state g old) (state g mid.conn.now) (state g end) e more (same e (subst (λ (c : Held S). IsCaused (state g c) (state g mid.conn.now) e) begun h))
    where
      same : (e : TableFault) → IsCaused (state g (record old { in_transaction = true })) (state g mid.conn.now) e → IsCaused (state g old) (state g mid.conn.now) e
      same Memory h = h
      same Store h = h
      same (NewerSchema n) h = h
      same Damaged h = h

  faults_later : (r : Result X TableFault) → FaultsQuery (λ (t : Transaction S). state g t.conn.now) sql params first mid r → FaultsQuery (state g) sql params old end r
  faults_later r h =
      let seen = ap (λ (c : Held S). (state g c).now.schema) begun in
      record {
        only_store = λ clean schema has plain. h.only_store (before clean) schema (seen ∙ has) plain;
        caused = λ clean schema has query. later r (h.caused (before clean) schema (λ opened. seen ∙ has (subst (λ (c : Held S). IsTrue (state g c).is_open) begun opened)) query);
        never = h.never;
      }

pub returns-clause-faults : goal.returns-clause-faults
returns-clause-faults g c =
    let same : c.drop-tx.new.self.0 ≡ c.self-1.given.0 = sym (c.self-1.given.1 (sym (c.read_inside.ensures.same_reference ∙ c.transaction-tx.ensures.same_reference))) in
    let first = c.read_inside.new.self.conn.now in
    let end = c.drop-tx.new.self.0 in
    subst (λ h. FaultsQuery (state g.S.Store) c.args.sql.now (bound c.args.params.now) c.args.self.now h c.read_inside.result) same
    (faults_later g.S.Store c.args.sql.now (bound c.args.params.now) c.args.self.now end c.transaction-tx.result c.read_inside.new.self c.transaction-tx.ensures.begun (earlier (state g.S.Store first) (state g.S.Store end) c.drop-tx.ensures.survives) c.drop-tx.ensures.survives.counts c.read_inside.result c.read_inside.ensures.faults)
