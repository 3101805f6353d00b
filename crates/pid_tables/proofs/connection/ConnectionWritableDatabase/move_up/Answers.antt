use Rattle.std.proofs.Common.{◌≡◌, true, Ok, OnOk, OnErr, refl, sym, subst, ◌∙◌, ap}
use Rattle.sqlite.specs.Held.{Held, state}
use Rattle.sqlite.specs.declared.transaction.Transaction.{Transaction}
use Rattle.sqlite.specs.State.{HasCleanDisk}
use Rattle.sqlite.proofs.StateLemmas.{clean_if_open}
use Rattle.pid_tables.specs.declared.rows.schema_version.Version.TheVariants.{One}
use Rattle.pid_tables.specs.Rows.Faults.{IsMemoryOrStore, IsNotNewerSchema}
use Rattle.pid_tables.specs.Rows.Clauses.{seen}
use Rattle.pid_tables.specs.Rows.Leaves.{AtRest, RestsIn}
use Rattle.pid_tables.specs.Rows.Shows.{counts_of}
use Rattle.pid_tables.proofs.OfRows.CauseLemmas.{passed_from}
use Rattle.pid_tables.proofs.OfRows.GoingLemmas.{earlier}
use Rattle.pid_tables.proofs.OfRows.LeaveLemmas.{on_err}
use Rattle.pid_tables.proofs.OfRows.OnlyReading.{reads_begun, rests_in_still}
use Rattle.pid_tables.proofs.Carrying.{carried_over}
use Rattle.pid_tables.proofs.AtOnceLemmas.{reads_at_once, reads_never, commit_at_once, committed_as, kept_as}
use Rattle.pid_tables.proofs.MoveLemmas.{failed_rests, all_never, all_only_store, not_on_ok}
use Rattle.pid_tables.specs.AtOnce.{WritesAtOnce}
use Rattle.pid_tables.specs.Statements.{Carries, IsMadeBy, move_statements}
use Rattle.pid_tables.proofs.connection.ConnectionWritableDatabase.move_up.Given.{Over}
use Rattle.pid_tables.proofs.connection.ConnectionWritableDatabase.move_up.Goals as goal

-- the connection is what the transaction leaves, which is dropped or committed
same_undone : (g : Over) (c : goal.After-self-1 g) → c.drop-batch.new.self.0 ≡ c.self-1.given.0
same_undone g c = sym (c.self-1.given.1 (sym (c.move_tables.ensures.works.same_reference ∙ c.transaction-batch.ensures.same_reference)))

same_ended : (g : Over) (c : goal.After-self-2-1 g) → c.commit.new.batch.0 ≡ c.self-2-1.given.0
same_ended g c = sym (c.self-2-1.given.1 (sym (c.move_tables.ensures.works.same_reference ∙ c.transaction-batch.ensures.same_reference)))

pub returns-clause-moved : goal.returns-clause-moved
returns-clause-moved g c = record {
  moved = λ v rest.
      let goes = rw c.transaction-batch.ensures.begun at c.in_ok-move_tables.ensures.works.goes in
      let shows = rw c.transaction-batch.ensures.begun at c.in_ok-move_tables.ensures.shows in
      let end = c.commit.new.batch.0 in
      let same = same_ended g c in
      subst (λ h. OnOk c.commit.result (AtRest (state g.S.Store h) v)) same
      (c.commit.ensures.stands v (λ clean. ((goes.going clean refl).0, shows clean refl (counts_of v) v rest.shows)));
  kept = λ v rest.
      let end = c.commit.new.batch.0 in
      let same = same_ended g c in
      let first = c.move_tables.new.tx.conn.now in
      let goes = rw c.transaction-batch.ensures.begun at c.in_ok-move_tables.ensures.works.goes in
      let shows = rw c.transaction-batch.ensures.begun at c.in_ok-move_tables.ensures.shows in
      subst (λ h. OnErr c.commit.result (RestsIn One (state g.S.Store h) v)) same
      (failed_rests g.S.Store One c.args.self.now first end (Ok c.in_ok-move_tables.field-0) c.commit.result v (clean_if_open (g.S.Store.view end.store) (g.met.S.Store.shut_if_dirty end.store))
      rest goes (λ clean. shows clean refl (counts_of v) v rest.shows) c.commit.ensures.ended c.commit.ensures.survives
      (λ clean. c.commit.ensures.ends.undone clean (goes.going (earlier (state g.S.Store first) (state g.S.Store end) c.commit.ensures.survives clean) refl).1));
  only_store = λ clean v rest.
      let first = c.move_tables.new.tx.conn.now in
      let end = c.commit.new.batch.0 in
      let same = same_ended g c in
      let late = subst (λ h. HasCleanDisk (state g.S.Store h)) (sym same) clean in
      let goes = rw c.transaction-batch.ensures.begun at c.in_ok-move_tables.ensures.works.goes in
      all_only_store (state g.S.Store first) (state g.S.Store end) c.commit.result
      (c.commit.ensures.ends.caused late (goes.going (earlier (state g.S.Store first) (state g.S.Store end) c.commit.ensures.survives late) refl).1);
}

pub returns-in_err-move_tables-clause-moved : goal.returns-in_err-move_tables-clause-moved
returns-in_err-move_tables-clause-moved g c = record {
  moved = λ v rest. not_on_ok c.from_residual.result _ _ c.from_residual.ensures.1;
  kept = λ v rest.
      let end = c.drop-batch.new.self.0 in
      let same = same_undone g c in
      let first = c.move_tables.new.tx.conn.now in
      let goes = rw c.transaction-batch.ensures.begun at c.move_tables.ensures.works.goes in
      on_err c.from_residual.result (subst (λ h. RestsIn One (state g.S.Store h) v) same
      (rests_in_still (state g.S.Store c.args.self.now) (state g.S.Store end) v
      (reads_begun g.S.Store c.args.self.now first end c.move_tables.result (clean_if_open (g.S.Store.view first.store) (g.met.S.Store.shut_if_dirty first.store))
      (clean_if_open (g.S.Store.view end.store) (g.met.S.Store.shut_if_dirty end.store)) goes c.drop-batch.ensures.ended c.drop-batch.ensures.undone c.drop-batch.ensures.survives) rest));
  only_store = λ clean v rest.
      let end = c.drop-batch.new.self.0 in
      let same = same_undone g c in
      let late = subst (λ h. HasCleanDisk (state g.S.Store h)) (sym same) clean in
      let mid = earlier (state g.S.Store c.move_tables.new.tx.conn.now) (state g.S.Store end) c.drop-batch.ensures.survives late in
      let shows = rw c.transaction-batch.ensures.begun at c.in_err-move_tables.ensures.shows in
      passed_from c.from_residual.result _ IsMemoryOrStore c.from_residual.ensures.1 (shows mid refl (counts_of v) v rest.shows);
}

-- ---- whatever the database

pub returns-in_err-move_tables-clause-at_once : goal.returns-in_err-move_tables-clause-at_once
returns-in_err-move_tables-clause-at_once g c =
    let old = state g.S.Store c.args.self.now in
    let end = c.drop-batch.new.self.0 in
    let same = same_undone g c in
    let first = c.move_tables.new.tx.conn.now in
    let goes = rw c.transaction-batch.ensures.begun at c.move_tables.ensures.works.goes in
    subst (λ h. WritesAtOnce old (state g.S.Store h) c.from_residual.result) same
    (reads_at_once old (state g.S.Store end) c.from_residual.result (reads_begun g.S.Store c.args.self.now first end c.move_tables.result
    (clean_if_open (g.S.Store.view first.store) (g.met.S.Store.shut_if_dirty first.store)) (clean_if_open (g.S.Store.view end.store) (g.met.S.Store.shut_if_dirty end.store))
    goes c.drop-batch.ensures.ended c.drop-batch.ensures.undone c.drop-batch.ensures.survives))

pub returns-clause-at_once : goal.returns-clause-at_once
returns-clause-at_once g c =
    let first = c.move_tables.new.tx.conn.now in
    let end = c.commit.new.batch.0 in
    let same = same_ended g c in
    let goes = rw c.transaction-batch.ensures.begun at c.in_ok-move_tables.ensures.works.goes in
    subst (λ h. WritesAtOnce (state g.S.Store c.args.self.now) (state g.S.Store h) c.commit.result) same
    (commit_at_once g.S.Store c.args.self.now first end (Ok c.in_ok-move_tables.field-0) goes c.commit.ensures.survives (clean_if_open (g.S.Store.view end.store) (g.met.S.Store.shut_if_dirty end.store)) c.commit.result c.commit.ensures.ended
    (λ clean. c.commit.ensures.ends.undone clean (goes.going (earlier (state g.S.Store first) (state g.S.Store end) c.commit.ensures.survives clean) refl).1)
    (λ clean. all_only_store (state g.S.Store first) (state g.S.Store end) c.commit.result (c.commit.ensures.ends.caused clean (goes.going (earlier (state g.S.Store first) (state g.S.Store end) c.commit.ensures.survives clean) refl).1)))

pub returns-in_err-move_tables-clause-never : goal.returns-in_err-move_tables-clause-never
returns-in_err-move_tables-clause-never g c clean = passed_from c.from_residual.result _ IsNotNewerSchema c.from_residual.ensures.1 c.in_err-move_tables.ensures.never

pub returns-clause-never : goal.returns-clause-never
returns-clause-never g c clean =
    let first = c.move_tables.new.tx.conn.now in
    let end = c.commit.new.batch.0 in
    let same = same_ended g c in
    let late = subst (λ h. HasCleanDisk (state g.S.Store h)) (sym same) clean in
    let goes = rw c.transaction-batch.ensures.begun at c.in_ok-move_tables.ensures.works.goes in
    all_never c.commit.result (all_only_store (state g.S.Store first) (state g.S.Store end) c.commit.result
    (c.commit.ensures.ends.caused late (goes.going (earlier (state g.S.Store first) (state g.S.Store end) c.commit.ensures.survives late) refl).1))

-- ---- what was carried out

pub returns-in_err-move_tables-clause-statements : goal.returns-in_err-move_tables-clause-statements
returns-in_err-move_tables-clause-statements g c =
    let old = state g.S.Store c.args.self.now in
    let end = c.drop-batch.new.self.0 in
    let same = same_undone g c in
    let first = c.move_tables.new.tx.conn.now in
    let goes = rw c.transaction-batch.ensures.begun at c.move_tables.ensures.works.goes in
    let made = IsMadeBy (state g.S.Store) move_statements c.args.self.now in
    subst (λ h. Carries (state g.S.Store) move_statements c.args.self.now h c.from_residual.result) same (record {
      survives = reads_never made old (state g.S.Store end) (reads_begun g.S.Store c.args.self.now first end c.move_tables.result (clean_if_open (g.S.Store.view first.store) (g.met.S.Store.shut_if_dirty first.store))
          (clean_if_open (g.S.Store.view end.store) (g.met.S.Store.shut_if_dirty end.store)) goes c.drop-batch.ensures.ended c.drop-batch.ensures.undone c.drop-batch.ensures.survives);
      done = λ clean. not_on_ok c.from_residual.result _ _ c.from_residual.ensures.1;
    })

pub returns-clause-statements : goal.returns-clause-statements
returns-clause-statements g c =
    let old = c.args.self.now in
    let first = c.move_tables.new.tx.conn.now in
    let end = c.commit.new.batch.0 in
    let same = same_ended g c in
    let goes = rw c.transaction-batch.ensures.begun at c.in_ok-move_tables.ensures.works.goes in
    let inside = ap (λ (h : Held _). h.in_transaction) c.transaction-batch.ensures.begun in
    let made = IsMadeBy (state g.S.Store) move_statements old in
    let is_made : HasCleanDisk (state g.S.Store first) → made (seen (state g.S.Store) first).trees = λ clean. record {
      was_open = goes.was_open clean (goes.going clean refl).0;
      first = record old { in_transaction = true };
      same = refl;
      last = first;
      carried = rw c.transaction-batch.ensures.begun at
          (carried_over (state g.S.Store) (λ (t : Transaction _). t.conn.now) move_statements c.transaction-batch.result c.move_tables.new.tx (c.in_ok-move_tables.ensures.works.carried clean inside));
      made = refl;
    } in
    subst (λ h. Carries (state g.S.Store) move_statements old h c.commit.result) same (record {
      survives = committed_as g.S.Store old first end (Ok c.in_ok-move_tables.field-0) goes c.commit.ensures.survives made is_made;
      done = λ clean.
          kept_as made (seen (state g.S.Store) first).trees (state g.S.Store end) c.commit.result (is_made (earlier (state g.S.Store first) (state g.S.Store end) c.commit.ensures.survives clean)) (c.commit.ensures.ends.done clean);
    })
