use Rattle.std.proofs.Common.{◌≡◌, Bool, true, false, Ok, IsTrue, refl, sym, ◌∙◌, subst, ap}
use Rattle.std.proofs.lemmas.Bool.{true≢false}
use Rattle.sqlite.specs.Held.{Held, state}
use Rattle.sqlite.specs.declared.transaction.Transaction.{Transaction}
use Rattle.sqlite.specs.State.{HasCleanDisk}
use Rattle.sqlite.proofs.StateLemmas.{clean_if_open, survives_then}
use Rattle.sqlite.proofs.Callers.{survives_begin}
use Rattle.pid_moderation.specs.History.{new_history}
use Rattle.pid_moderation.specs.Views.{views_of}
use Rattle.pid_tables.specs.Rows.Clauses.{seen}
use Rattle.pid_tables.specs.Rows.Leaves.{OnlyReads}
use Rattle.pid_tables.specs.Rows.Faults.{IsMemoryOrStore, IsNotNewerSchema}
use Rattle.pid_tables.proofs.OfRows.CauseLemmas.{passed_on, passed_from}
use Rattle.pid_tables.proofs.OfRows.LeaveLemmas.{on_err}
use Rattle.pid_tables.proofs.OfRows.GoingLemmas.{earlier}
use Rattle.pid_tables.proofs.OfRows.OnlyReading.{reads_begun}
use Rattle.pid_tables.proofs.MetLemmas.{reads_if_never}
use Rattle.pid_tables.proofs.MoveLemmas.{all_never, all_only_store, not_on_ok}
use Rattle.pid_tables.proofs.Carrying.{carried_over}
use Rattle.pid_tables.proofs.AtOnceLemmas.{reads_at_once, reads_never, commit_at_once, commit_bare, committed_as, kept_as, still_bare}
use Rattle.pid_tables.specs.AtOnce.{WritesAtOnce}
use Rattle.pid_tables.specs.Creation.{IsNameTaken, MakesNew, MakesNothing}
use Rattle.pid_tables.specs.Statements.{Carries, IsMadeBy, registry_statements}
use Rattle.pid_tables.proofs.connection.ConnectionWritableDatabase.create.Given.{Over}
use Rattle.pid_tables.proofs.connection.ConnectionWritableDatabase.create.Goals as goal

-- the connection is what the transaction leaves, which is dropped or committed
same_undone : (g : Over) (c : goal.After-self-1 g) → c.drop-batch.new.self.0 ≡ c.self-1.given.0
same_undone g c = sym (c.self-1.given.1 (sym (c.make_registry.ensures.works.same_reference ∙ c.transaction-batch.ensures.same_reference)))

same_ended : (g : Over) (c : goal.After-self-2-1 g) → c.commit.new.batch.0 ≡ c.self-2-1.given.0
same_ended g c = sym (c.self-2-1.given.1 (sym (c.make_registry.ensures.works.same_reference ∙ c.transaction-batch.ensures.same_reference)))

-- ---- a call fails, and all is given up

pub returns-in_err-make_registry-clause-at_once : goal.returns-in_err-make_registry-clause-at_once
returns-in_err-make_registry-clause-at_once g c =
    let old = state g.S.Store c.args.self.now in
    let end = c.drop-batch.new.self.0 in
    let same = same_undone g c in
    let first = c.make_registry.new.tx.conn.now in
    let goes = rw c.transaction-batch.ensures.begun at c.make_registry.ensures.works.goes in
    subst (λ h. WritesAtOnce old (state g.S.Store h) c.from_residual.result) same
    (reads_at_once old (state g.S.Store end) c.from_residual.result (reads_begun g.S.Store c.args.self.now first end c.make_registry.result (clean_if_open (g.S.Store.view first.store) (g.met.S.Store.shut_if_dirty first.store))
    (clean_if_open (g.S.Store.view end.store) (g.met.S.Store.shut_if_dirty end.store)) goes c.drop-batch.ensures.ended c.drop-batch.ensures.undone c.drop-batch.ensures.survives))

pub returns-in_err-make_registry-clause-statements : goal.returns-in_err-make_registry-clause-statements
returns-in_err-make_registry-clause-statements g c =
    let old = state g.S.Store c.args.self.now in
    let end = c.drop-batch.new.self.0 in
    let same = same_undone g c in
    let first = c.make_registry.new.tx.conn.now in
    let goes = rw c.transaction-batch.ensures.begun at c.make_registry.ensures.works.goes in
    let made = IsMadeBy (state g.S.Store) registry_statements c.args.self.now in
    subst (λ h. Carries (state g.S.Store) registry_statements c.args.self.now h c.from_residual.result) same (record {
      survives = reads_never made old (state g.S.Store end) (reads_begun g.S.Store c.args.self.now first end c.make_registry.result (clean_if_open (g.S.Store.view first.store) (g.met.S.Store.shut_if_dirty first.store))
          (clean_if_open (g.S.Store.view end.store) (g.met.S.Store.shut_if_dirty end.store)) goes c.drop-batch.ensures.ended c.drop-batch.ensures.undone c.drop-batch.ensures.survives);
      done = λ clean. not_on_ok c.from_residual.result _ _ c.from_residual.ensures.1;
    })

pub returns-in_err-make_registry-clause-makes : goal.returns-in_err-make_registry-clause-makes
returns-in_err-make_registry-clause-makes g c =
    let old = state g.S.Store c.args.self.now in
    let end = c.drop-batch.new.self.0 in
    let same = same_undone g c in
    let first = c.make_registry.new.tx.conn.now in
    let goes = rw c.transaction-batch.ensures.begun at c.make_registry.ensures.works.goes in
    let filled = rw c.transaction-batch.ensures.begun at c.in_err-make_registry.ensures.filled in
    subst (λ h. MakesNew old (state g.S.Store h) c.from_residual.result) same (record {
      made = λ rest. not_on_ok c.from_residual.result _ _ c.from_residual.ensures.1;
      only_store = λ clean rest. passed_from c.from_residual.result _ IsMemoryOrStore c.from_residual.ensures.1 (filled (earlier (state g.S.Store first) (state g.S.Store end) c.drop-batch.ensures.survives clean) refl rest.empty);
      bare = λ rest. on_err c.from_residual.result (still_bare old (state g.S.Store end) (reads_begun g.S.Store c.args.self.now first end c.make_registry.result (clean_if_open (g.S.Store.view first.store) (g.met.S.Store.shut_if_dirty first.store))
          (clean_if_open (g.S.Store.view end.store) (g.met.S.Store.shut_if_dirty end.store)) goes c.drop-batch.ensures.ended c.drop-batch.ensures.undone c.drop-batch.ensures.survives) rest);
    })

-- where a fault has shut the connection
never_open : (s : Bool) → s ≡ false → IsTrue s → ⊥
never_open s closed opened = true≢false (sym opened ∙ closed)

pub returns-in_err-make_registry-clause-spares : goal.returns-in_err-make_registry-clause-spares
returns-in_err-make_registry-clause-spares g c =
    let old = state g.S.Store c.args.self.now in
    let end = c.drop-batch.new.self.0 in
    let same = same_undone g c in
    let first = c.make_registry.new.tx.conn.now in
    let goes = rw c.transaction-batch.ensures.begun at c.make_registry.ensures.works.goes in
    let filled = rw c.transaction-batch.ensures.begun at c.in_err-make_registry.ensures.filled in
    let refused = rw c.transaction-batch.ensures.begun at c.in_err-make_registry.ensures.refused in
    let never = rw c.transaction-batch.ensures.begun at c.in_err-make_registry.ensures.never in
    let reads = (reads_begun g.S.Store c.args.self.now first end c.make_registry.result (clean_if_open (g.S.Store.view first.store) (g.met.S.Store.shut_if_dirty first.store))
    (clean_if_open (g.S.Store.view end.store) (g.met.S.Store.shut_if_dirty end.store)) goes c.drop-batch.ensures.ended c.drop-batch.ensures.undone c.drop-batch.ensures.survives) in
    subst (λ h. MakesNothing old (state g.S.Store h) c.from_residual.result) same (record {
      rests = λ met. reads;
      refused = λ clean met. passed_on c.from_residual.result _ _ IsNotNewerSchema c.from_residual.ensures.1 (refused (earlier (state g.S.Store first) (state g.S.Store end) c.drop-batch.ensures.survives clean) refl met);
      shut = λ clean closed.
          passed_on c.from_residual.result _ _ IsMemoryOrStore c.from_residual.ensures.1
          (filled (earlier (state g.S.Store first) (state g.S.Store end) c.drop-batch.ensures.survives clean) refl (λ opened. absurd (never_open _ closed opened)));
      never = λ clean. passed_from c.from_residual.result _ IsNotNewerSchema c.from_residual.ensures.1 (never (earlier (state g.S.Store first) (state g.S.Store end) c.drop-batch.ensures.survives clean) refl);
    })

-- ---- all was made, and the commit answers

pub returns-clause-at_once : goal.returns-clause-at_once
returns-clause-at_once g c =
    let first = c.make_registry.new.tx.conn.now in
    let end = c.commit.new.batch.0 in
    let same = same_ended g c in
    let goes = rw c.transaction-batch.ensures.begun at c.in_ok-make_registry.ensures.works.goes in
    subst (λ h. WritesAtOnce (state g.S.Store c.args.self.now) (state g.S.Store h) c.commit.result) same
    (commit_at_once g.S.Store c.args.self.now first end (Ok c.in_ok-make_registry.field-0) goes c.commit.ensures.survives (clean_if_open (g.S.Store.view end.store) (g.met.S.Store.shut_if_dirty end.store)) c.commit.result c.commit.ensures.ended
    (λ clean. c.commit.ensures.ends.undone clean (goes.going (earlier (state g.S.Store first) (state g.S.Store end) c.commit.ensures.survives clean) refl).1)
    (λ clean. all_only_store (state g.S.Store first) (state g.S.Store end) c.commit.result (c.commit.ensures.ends.caused clean (goes.going (earlier (state g.S.Store first) (state g.S.Store end) c.commit.ensures.survives clean) refl).1)))

pub returns-clause-statements : goal.returns-clause-statements
returns-clause-statements g c =
    let old = c.args.self.now in
    let first = c.make_registry.new.tx.conn.now in
    let end = c.commit.new.batch.0 in
    let same = same_ended g c in
    let goes = rw c.transaction-batch.ensures.begun at c.in_ok-make_registry.ensures.works.goes in
    let inside = ap (λ (h : Held _). h.in_transaction) c.transaction-batch.ensures.begun in
    let made = IsMadeBy (state g.S.Store) registry_statements old in
    let is_made : HasCleanDisk (state g.S.Store first) → made (seen (state g.S.Store) first).trees = λ clean. record {
      was_open = goes.was_open clean (goes.going clean refl).0;
      first = record old { in_transaction = true };
      same = refl;
      last = first;
      carried = rw c.transaction-batch.ensures.begun at
          (carried_over (state g.S.Store) (λ (t : Transaction _). t.conn.now) registry_statements c.transaction-batch.result c.make_registry.new.tx (c.in_ok-make_registry.ensures.works.carried clean inside));
      made = refl;
    } in
    subst (λ h. Carries (state g.S.Store) registry_statements old h c.commit.result) same (record {
      survives = committed_as g.S.Store old first end (Ok c.in_ok-make_registry.field-0) goes c.commit.ensures.survives made is_made;
      done = λ clean.
          kept_as made (seen (state g.S.Store) first).trees (state g.S.Store end) c.commit.result (is_made (earlier (state g.S.Store first) (state g.S.Store end) c.commit.ensures.survives clean)) (c.commit.ensures.ends.done clean);
    })

pub returns-clause-makes : goal.returns-clause-makes
returns-clause-makes g c =
    let old = state g.S.Store c.args.self.now in
    let first = c.make_registry.new.tx.conn.now in
    let end = c.commit.new.batch.0 in
    let same = same_ended g c in
    let goes = rw c.transaction-batch.ensures.begun at c.in_ok-make_registry.ensures.works.goes in
    let shows = rw c.transaction-batch.ensures.begun at c.in_ok-make_registry.ensures.filled in
    subst (λ h. MakesNew old (state g.S.Store h) c.commit.result) same (record {
      made = λ rest. c.commit.ensures.stands (views_of new_history) (λ clean. ((goes.going clean refl).0, shows clean refl rest.empty));
      only_store = λ clean rest.
          all_only_store (state g.S.Store first) (state g.S.Store end) c.commit.result (c.commit.ensures.ends.caused clean (goes.going (earlier (state g.S.Store first) (state g.S.Store end) c.commit.ensures.survives clean) refl).1);
      bare = λ rest.
          commit_bare g.S.Store c.args.self.now first end (Ok c.in_ok-make_registry.field-0) goes c.commit.ensures.survives (clean_if_open (g.S.Store.view end.store) (g.met.S.Store.shut_if_dirty end.store)) c.commit.result
          c.commit.ensures.ended (λ clean. c.commit.ensures.ends.undone clean (goes.going (earlier (state g.S.Store first) (state g.S.Store end) c.commit.ensures.survives clean) refl).1) (λ clean. shows clean refl rest.empty) rest;
    })

-- no name was taken, since all were made
pub returns-clause-spares : goal.returns-clause-spares
returns-clause-spares g c =
    let old = state g.S.Store c.args.self.now in
    let first = c.make_registry.new.tx.conn.now in
    let mid = state g.S.Store first in
    let end = c.commit.new.batch.0 in
    let same = same_ended g c in
    let goes = rw c.transaction-batch.ensures.begun at c.in_ok-make_registry.ensures.works.goes in
    let refused = rw c.transaction-batch.ensures.begun at c.in_ok-make_registry.ensures.refused in
    let begun = state g.S.Store (record c.args.self.now { in_transaction = true }) in
    let reads : (IsTrue old.is_open → IsNameTaken old) → OnlyReads old (state g.S.Store end) = λ met.
    reads_if_never old (state g.S.Store end) (λ db. db ≡ mid.now.trees)
    (survives_begin g.S.Store c.args.self.now (state g.S.Store end) (λ db. db ≡ mid.now.trees)
    (survives_then begun mid (state g.S.Store end) (λ _. ⊥) (λ db. db ≡ mid.now.trees) (λ db. db ≡ mid.now.trees) (λ clean db none. absurd none) (λ clean db is. is) goes.survives c.commit.ensures.survives))
    (λ clean. earlier begun mid goes.survives (earlier mid (state g.S.Store end) c.commit.ensures.survives clean)) c.commit.ensures.ended
    (clean_if_open (g.S.Store.view end.store) (g.met.S.Store.shut_if_dirty end.store))
    (λ clean. refused (earlier mid (state g.S.Store end) c.commit.ensures.survives clean) refl met) in
    subst (λ h. MakesNothing old (state g.S.Store h) c.commit.result) same (record {
      rests = reads;
      refused = λ clean met. absurd (refused (earlier mid (state g.S.Store end) c.commit.ensures.survives clean) refl met);
      shut = λ clean closed.
          let early = earlier mid (state g.S.Store end) c.commit.ensures.survives clean in
          absurd (never_open _ closed (goes.was_open early (goes.going early refl).0));
      never = λ clean.
          let early = earlier mid (state g.S.Store end) c.commit.ensures.survives clean in
          all_never c.commit.result (all_only_store mid (state g.S.Store end) c.commit.result (c.commit.ensures.ends.caused clean (goes.going early refl).1));
    })
