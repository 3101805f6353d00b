use Rattle.std.proofs.Common.{◌≡◌, [], refl, sym, ap, subst, ◌∙◌}
use Rattle.std.proofs.lemmas.Result.{err_from_is_err_and}
use Rattle.sqlite.specs.State.{HasCleanDisk}
use Rattle.sqlite.specs.Held.{state}
use Rattle.sqlite.proofs.StateLemmas.{clean_if_open}
use Rattle.pid_tables.specs.Rows.Leaves.{OnlyReads}
use Rattle.pid_tables.proofs.OfRows.OnlyReading.{keeps_same, keeps_either}
use Rattle.pid_tables.specs.Check.Queries.{query_of}
use Rattle.pid_tables.proofs.OfCheck.Walking.{refused, refused_told, begun, walked_rests, walk_rests, one_more, all_kept, step_told, failed_so}
use Rattle.pid_tables.proofs.connection.ConnectionDatabase.fold_rows.Given.{Over}
use Rattle.pid_tables.specs.Rows.Faults.{IsMemoryOrStore}
use Rattle.pid_tables.proofs.OfRows.CauseLemmas.{passed_on}
use Rattle.pid_tables.proofs.connection.ConnectionDatabase.fold_rows.Goals as goal

-- ---- the rows are given up, and the connection is what they leave

same_at_fault : (g : Over) (c : goal.After-self-in_err-row-1 g) → c.next.follows.lender-at-none.conn.now ≡ c.self-in_err-row-1.given.0
same_at_fault g c = sym c.drop-rows.ensures ∙ sym (c.self-in_err-row-1.given.1 (sym (c.next.follows.holds-at-none.same_reference ∙ (c.rows.invariant.1 ∙ c.in_ok-rows.ensures.same_reference))))

same_at_end : (g : Over) (c : goal.After-self-in_default-1 g) → c.next.follows.lender-at-none.conn.now ≡ c.self-in_default-1.given.0
same_at_end g c = sym c.drop-rows-in_default.ensures ∙ sym (c.self-in_default-1.given.1 (sym (c.next.follows.holds-at-none.same_reference ∙ (c.rows.invariant.1 ∙ c.in_ok-rows.ensures.same_reference))))

same_unkept : (g : Over) (c : goal.After-self-in_err-keep-1 g) → c.next.follows.lender-at-none.conn.now ≡ c.self-in_err-keep-1.given.0
same_unkept g c = sym c.drop-rows-in_err-keep.ensures ∙ sym (c.self-in_err-keep-1.given.1 (sym (c.next.follows.holds-at-none.same_reference ∙ (c.rows.invariant.1 ∙ c.in_ok-rows.ensures.same_reference))))

same_last : (g : Over) (c : goal.After-self-2-1 g) → c.rows.rows.conn.now ≡ c.self-2-1.given.0
same_last g c = sym c.drop-rows-2.ensures ∙ sym (c.self-2-1.given.1 (sym (c.rows.invariant.1 ∙ c.in_ok-rows.ensures.same_reference)))

pub returns-in_err-rows : goal.returns-in_err-rows
returns-in_err-rows g c = record {
  rests =
      let new = c.query.follows.lender-at-none in
      refused g.S.Store c.args.table c.query-sql.result.now c.args.self.now new c.query.result c.in_err-rows.field-0.0 c.query-sql.ensures c.in_err-rows.was (clean_if_open (g.S.Store.view new.store) (g.met.S.Store.shut_if_dirty new.store)) c.requires c.query.follows.holds-at-none;
  keeps = λ clean d is asked.
      let new = c.query.follows.lender-at-none in
      let p = err_from_is_err_and c.from_residual.result c.from_residual.ensures.1 in
      failed_so _ c.from_residual.result _ _ p.1 p.2 (refused_told g.S.Store c.args.table c.query-sql.result.now c.args.self.now new c.query.result c.in_err-rows.field-0.0 c.query-sql.ensures c.in_err-rows.was c.query.follows.holds-at-none clean d is asked);
}

pub rows-init : goal.rows-init
rows-init g c =
    let made = c.in_ok-rows.ensures in
    (begun g.S.Store c.args.table (λ keeper rows. g.K.RowFold.keeps c.args.keeper.now rows keeper) c.args.self.now c.args.keeper.now c.query-sql.result.now c.in_ok-rows.rows.conn.now c.query-sql.ensures (made.mode c.requires) made.survives made.begun, refl)

pub returns-in_err-row : goal.returns-in_err-row
returns-in_err-row g c = record {
  rests =
      let moved = c.next.follows.holds-at-none in
      let now = c.next.follows.lender-at-none.conn.now in
      let mid = c.rows.rows.conn.now in
      let w = c.rows.invariant.0 in
      subst (λ h. OnlyReads (state g.S.Store c.args.self.now) (state g.S.Store h)) (same_at_fault g c)
      (walked_rests g.S.Store c.args.table (λ keeper rows. g.K.RowFold.keeps c.args.keeper.now rows keeper) c.args.self.now c.args.keeper.now mid now c.rows.keeper w (clean_if_open (g.S.Store.view now.store) (g.met.S.Store.shut_if_dirty now.store)) moved.survives (moved.mode w.settled) (λ clean. keeps_either (state g.S.Store mid) (state g.S.Store now) c.in_err-row.field-0.0 (rw c.in_err-row.was at (moved.kept clean))));
  keeps = λ clean d is asked.
      let moved = c.next.follows.holds-at-none in
      let now = c.next.follows.lender-at-none.conn.now in
      let mid = c.rows.rows.conn.now in
      let w = c.rows.invariant.0 in
      let late : HasCleanDisk (state g.S.Store now) = subst (λ h. HasCleanDisk (state g.S.Store h)) (sym (same_at_fault g c)) clean in
      let p = err_from_is_err_and c.from_residual-in_err-row.result c.from_residual-in_err-row.ensures.1 in
      failed_so _ c.from_residual-in_err-row.result _ _ p.1 p.2 (step_told g.S.Store c.args.table (λ keeper rows. g.K.RowFold.keeps c.args.keeper.now rows keeper) c.args.self.now c.args.keeper.now mid now c.rows.keeper w moved.survives late d is asked c.in_err-row.field-0.0 (rw c.in_err-row.was at (moved.err late)));
}

pub returns-in_default : goal.returns-in_default
returns-in_default g c = record {
  rests =
      let moved = c.next.follows.holds-at-none in
      let now = c.next.follows.lender-at-none.conn.now in
      let mid = c.rows.rows.conn.now in
      let w = c.rows.invariant.0 in
      subst (λ h. OnlyReads (state g.S.Store c.args.self.now) (state g.S.Store h)) (same_at_end g c)
      (walked_rests g.S.Store c.args.table (λ keeper rows. g.K.RowFold.keeps c.args.keeper.now rows keeper) c.args.self.now c.args.keeper.now mid now c.rows.keeper w (clean_if_open (g.S.Store.view now.store) (g.met.S.Store.shut_if_dirty now.store)) moved.survives (moved.mode w.settled) (λ clean. keeps_same (state g.S.Store mid) (state g.S.Store now) (rw c.in_ok-row.was at (moved.same clean))));
  keeps = λ clean d is asked.
      let moved = c.next.follows.holds-at-none in
      let now = c.next.follows.lender-at-none.conn.now in
      let mid = c.rows.rows.conn.now in
      let w = c.rows.invariant.0 in
      let late : HasCleanDisk (state g.S.Store now) = subst (λ h. HasCleanDisk (state g.S.Store h)) (sym (same_at_end g c)) clean in
      let told = all_kept g.S.Store c.args.table (λ keeper rows. g.K.RowFold.keeps c.args.keeper.now rows keeper) c.args.self.now c.args.keeper.now mid now c.rows.keeper w moved.survives (λ late. rw c.in_ok-row.was at (moved.same late)) (λ late rows given. (rw (c.in_ok-row.was, c.in_default.is) at (moved.ok late)) (query_of c.args.table) [] rows given) late d is in
      (told.0, ap (λ h. (state g.S.Store h).now) (sym (same_at_end g c)) ∙ told.1);
}

pub returns-in_err-keep : goal.returns-in_err-keep
returns-in_err-keep g c = record {
  rests =
      let moved = c.next.follows.holds-at-none in
      let now = c.next.follows.lender-at-none.conn.now in
      let mid = c.rows.rows.conn.now in
      let w = c.rows.invariant.0 in
      subst (λ h. OnlyReads (state g.S.Store c.args.self.now) (state g.S.Store h)) (same_unkept g c)
      (walked_rests g.S.Store c.args.table (λ keeper rows. g.K.RowFold.keeps c.args.keeper.now rows keeper) c.args.self.now c.args.keeper.now mid now c.rows.keeper w (clean_if_open (g.S.Store.view now.store) (g.met.S.Store.shut_if_dirty now.store)) moved.survives (moved.mode w.settled) (λ clean. keeps_same (state g.S.Store mid) (state g.S.Store now) (rw c.in_ok-row.was at (moved.same clean))));
  keeps = λ clean d is asked. passed_on c.from_residual-in_err-keep.result _ _ IsMemoryOrStore c.from_residual-in_err-keep.ensures.1 c.in_err-keep.ensures.only_store;
}

pub rows-preserved : goal.rows-preserved
rows-preserved g c =
    let moved = c.next.follows.holds-at-none in
    let now = c.next.follows.lender-at-none.conn.now in
    let mid = c.rows.rows.conn.now in
    let w = c.rows.invariant.0 in (
      one_more g.S.Store c.args.table (λ keeper rows. g.K.RowFold.keeps c.args.keeper.now rows keeper) c.args.self.now c.args.keeper.now mid now c.rows.keeper c.keep.new.self c.in-Some.row.now c.keep.result _ w moved.survives (moved.mode w.settled) (λ late. rw c.in_ok-row.was at (moved.same late))
          (λ late rows given. (rw (c.in_ok-row.was, c.in-Some.is) at (moved.ok late)) (query_of c.args.table) [] rows given) c.in_ok-keep.was (c.keep.ensures.kept c.args.keeper.now),
      moved.same_reference ∙ c.rows.invariant.1,
    )

pub returns : goal.returns
returns g c = record {
  rests =
      let mid = c.rows.rows.conn.now in
      subst (λ h. OnlyReads (state g.S.Store c.args.self.now) (state g.S.Store h)) (same_last g c)
      (walk_rests g.S.Store c.args.table (λ keeper rows. g.K.RowFold.keeps c.args.keeper.now rows keeper) c.args.self.now c.args.keeper.now mid c.rows.keeper c.rows.invariant.0 (clean_if_open (g.S.Store.view mid.store) (g.met.S.Store.shut_if_dirty mid.store)));
  keeps = λ clean d is asked. tt;
}
