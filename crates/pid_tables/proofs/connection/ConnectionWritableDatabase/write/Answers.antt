use Rattle.std.proofs.Common.{◌≡◌, false, OnOk, OnErr, refl, rules, sym, subst, ◌∙◌}
use Rattle.sqlite.specs.State.{HasCleanDisk}
use Rattle.pid_tables.specs.Rows.Clauses.{AtRest}
use Rattle.pid_tables.proofs.OfRows.GoingLemmas.{earlier}
use Rattle.pid_tables.proofs.OfRows.LeaveLemmas.{on_err}
use Rattle.pid_tables.proofs.MoveLemmas.{not_on_ok}
use Rattle.sqlite.specs.Held.{state}
use Rattle.pid_moderation.specs.Changes.{changed}
use Rattle.pid_tables.specs.Rows.Clauses.{LeavesEither}
use Rattle.pid_tables.specs.Rows.Shows.{counts_of}
use Rattle.pid_tables.proofs.ApplyLemmas.{counted}
use Rattle.pid_tables.proofs.connection.ConnectionWritableDatabase.write.Given.{Over}
use Rattle.pid_tables.proofs.connection.ConnectionWritableDatabase.write.Goals as goal

-- the connection is what the transaction leaves, which is dropped or committed
same_undone : (g : Over) (c : goal.After-self-1 g) → c.drop-batch.new.self.0 ≡ c.self-1.given.0
same_undone g c = search rules

same_ended : (g : Over) (c : goal.After-self-2-1 g) → c.commit.new.batch.0 ≡ c.self-2-1.given.0
same_ended g c = search rules

pub returns : goal.returns
returns g c = record {
  ends = record {
    settled = subst (λ h. h.in_transaction ≡ false) (same_ended g c) c.commit.ensures.ended;
    clean = λ clean.
        let late = subst (λ h. HasCleanDisk (state g.S.Store h)) (sym (same_ended g c)) clean in
        let mid = earlier (state g.S.Store c.apply.new.batch.conn.now) (state g.S.Store c.commit.new.batch.0) c.commit.ensures.survives late in
        subst (λ h. HasCleanDisk (state g.S.Store h)) c.begin-batch.ensures.unchanged (earlier (state g.S.Store c.begin-batch.result.conn.now) (state g.S.Store c.apply.new.batch.conn.now) c.apply.ensures.survives mid);
    limit =
        let begun : c.begin-batch.result.conn.now.step_limit ≡ c.args.self.now.step_limit = subst (λ h. h.step_limit ≡ c.args.self.now.step_limit) (sym c.begin-batch.ensures.unchanged) refl in
        subst (λ h. h.step_limit ≡ c.args.self.now.step_limit) (same_ended g c) (c.commit.ensures.survives.limit ∙ (c.apply.ensures.survives.limit ∙ begun));
  };
  stands = λ v rest fits.
      let w = changed c.args.change.now v in
      let done = c.in_ok-apply.ensures.applied (counts_of v) v v (c.begin-batch.ensures.begun v rest) (counted c.args.change.now.effect v) fits in
      subst (λ h. OnOk c.commit.result (AtRest (state g.S.Store) h w)) (same_ended g c) (c.commit.ensures.stands w (λ clean. (done.opened clean, done.within.shows (done.opened clean))));
  either = λ v rest fits.
      let w = changed c.args.change.now v in
      let done = c.in_ok-apply.ensures.applied (counts_of v) v v (c.begin-batch.ensures.begun v rest) (counted c.args.change.now.effect v) fits in
      subst (λ h. OnErr c.commit.result (LeavesEither (state g.S.Store) h v w)) (same_ended g c) (on_err c.commit.result (c.commit.ensures.either v w done));
}

-- ---- the change was not written

pub returns-in_err-apply-clause-stands : goal.returns-in_err-apply-clause-stands
returns-in_err-apply-clause-stands g c v rest fits = not_on_ok c.from_residual.result _ _ c.from_residual.ensures.1

pub returns-in_err-apply-clause-ends : goal.returns-in_err-apply-clause-ends
returns-in_err-apply-clause-ends g c = record {
  settled = subst (λ h. h.in_transaction ≡ false) (same_undone g c) c.drop-batch.ensures.ended;
  clean = λ clean.
      let late = subst (λ h. HasCleanDisk (state g.S.Store h)) (sym (same_undone g c)) clean in
      let mid = earlier (state g.S.Store c.apply.new.batch.conn.now) (state g.S.Store c.drop-batch.new.self.0) c.drop-batch.ensures.survives late in
      subst (λ h. HasCleanDisk (state g.S.Store h)) c.begin-batch.ensures.unchanged (earlier (state g.S.Store c.begin-batch.result.conn.now) (state g.S.Store c.apply.new.batch.conn.now) c.apply.ensures.survives mid);
  limit =
      let begun : c.begin-batch.result.conn.now.step_limit ≡ c.args.self.now.step_limit = subst (λ h. h.step_limit ≡ c.args.self.now.step_limit) (sym c.begin-batch.ensures.unchanged) refl in
      subst (λ h. h.step_limit ≡ c.args.self.now.step_limit) (same_undone g c) (c.drop-batch.ensures.survives.limit ∙ (c.apply.ensures.survives.limit ∙ begun));
}
