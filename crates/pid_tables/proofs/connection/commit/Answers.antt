use Rattle.std.proofs.Common.{ap, sym, ◌∙◌}
use Rattle.sqlite.specs.Effect.{Database}
use Rattle.sqlite.specs.Held.{state}
use Rattle.sqlite.proofs.StateLemmas.{clean_if_open}
use Rattle.pid_tables.proofs.OfRows.LeaveLemmas.{stands, failed_back, on_err}
use Rattle.pid_tables.proofs.OfRows.GoingLemmas.{earlier}
use Rattle.pid_tables.specs.Rows.Shows.{counts_of}
use Rattle.pid_tables.specs.Rows.Causes.{IsCaused}
use Rattle.pid_tables.proofs.OfRows.CauseLemmas.{passed_from}
use Rattle.pid_tables.proofs.CommitLemmas.{commit_caused}
use Rattle.pid_tables.proofs.MoveLemmas.{not_on_ok, undone}
use Rattle.pid_tables.proofs.connection.commit.Goals as goal

pub returns-clause-stands : goal.returns-clause-stands
returns-clause-stands g c w shows =
    let start = c.args.batch.conn.now in
    let end = c.commit.new.self.0 in
    stands g.S.Store (state g.S.Store start) end w (clean_if_open (g.S.Store.view end.store) (g.met.S.Store.shut_if_dirty end.store)) (g.met.S.Store.settled end.store) c.commit.ensures.ended
    (λ clean. (c.in_ok-commit.ensures.ok clean).1) (λ opened. (shows (clean_if_open (g.S.Store.view start.store) (g.met.S.Store.shut_if_dirty start.store) opened)).1)

pub returns-clause-ends : goal.returns-clause-ends
returns-clause-ends g c =
    let end = c.commit.new.self.0 in
    record {
      done = λ clean.
          let s = (c.in_ok-commit.ensures.ok clean).1 in
          record {
            is_open = s.is_open;
            sees = ap (λ (d : Database). d.trees) s.now_is;
            leaves = λ db may. g.met.S.Store.settled end.store db s.is_open may ∙ ap (λ (d : Database). d.trees) (s.committed_is ∙ sym s.now_is);
          };
      caused = λ clean inside. tt;
      given_back = λ v w written. tt;
      undone = λ clean inside. tt;
    }

pub returns-in_err-commit-clause-ends : goal.returns-in_err-commit-clause-ends
returns-in_err-commit-clause-ends g c =
    let end = c.commit.new.self.0 in
    let old = state g.S.Store c.args.batch.conn.now in
    let new = state g.S.Store end in
    record {
      done = λ clean. not_on_ok c.from_residual.result _ _ c.from_residual.ensures.1;
      caused = λ clean inside. passed_from c.from_residual.result _ (IsCaused old new) c.from_residual.ensures.1 (commit_caused old new c.in_err-commit.field-0.0 inside (c.in_err-commit.ensures.err clean));
      given_back = λ v w written.
          on_err c.from_residual.result (failed_back old new (counts_of w) v w _ (clean_if_open (g.S.Store.view end.store) (g.met.S.Store.shut_if_dirty end.store)) (earlier old new c.commit.ensures.survives) c.in_err-commit.ensures.err written);
      undone = λ clean inside. on_err c.from_residual.result (undone old new c.in_err-commit.field-0.0 inside (c.in_err-commit.ensures.err clean));
    }
