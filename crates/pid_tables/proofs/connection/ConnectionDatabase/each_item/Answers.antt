use Rattle.std.proofs.Common.{[], IfErr, arith, refl, sym, ap, subst, ◌≡◌, ◌∙◌, Err, take, drop, take-append-drop}
use Rattle.std.proofs.lemmas.Result.{err_from_is_err_and}
use Rattle.sqlite.specs.State.{HasCleanDisk}
use Rattle.sqlite.specs.Held.{state}
use Rattle.sqlite.proofs.StateLemmas.{clean_if_open}
use Rattle.pid_tables.specs.Rows.Leaves.{OnlyReads}
use Rattle.pid_tables.specs.Lists.EachItem.{IsCausedEnd, Walks, placed_from}
use Rattle.pid_tables.proofs.OfLists.ItemLists.{select_all}
use Rattle.pid_tables.proofs.OfLists.WalkLemmas.{refused, refused_caused, step_caused, unread_caused, end_caused, tables_caused, never_so_many, begun, walked_rests, walk_rests, faulted, taken, not_taken, all_taken, took_more, some_stopped, some_left, some_all}
use Rattle.pid_tables.proofs.OfRows.OnlyReading.{keeps_same, keeps_either}
use Rattle.pid_tables.proofs.connection.ConnectionDatabase.each_item.Given.{Over}
use Rattle.pid_tables.proofs.connection.ConnectionDatabase.each_item.Goals as goal

same_at_fault : (g : Over) (c : goal.After-self-in_err-row-1 g) → c.next.follows.lender-at-none.conn.now ≡ c.self-in_err-row-1.given.0
same_at_fault g c = sym c.drop-rows.ensures ∙ sym (c.self-in_err-row-1.given.1 (sym (c.next.follows.holds-at-none.same_reference ∙ (c.rows.invariant.1 ∙ c.in_ok-rows.ensures.same_reference))))

same_at_end : (g : Over) (c : goal.After-self-in_default-1 g) → c.next.follows.lender-at-none.conn.now ≡ c.self-in_default-1.given.0
same_at_end g c = sym c.drop-rows-in_default.ensures ∙ sym (c.self-in_default-1.given.1 (sym (c.next.follows.holds-at-none.same_reference ∙ (c.rows.invariant.1 ∙ c.in_ok-rows.ensures.same_reference))))

same_untaken : (g : Over) (c : goal.After-self-in_err-hand_on-1 g) → c.next.follows.lender-at-none.conn.now ≡ c.self-in_err-hand_on-1.given.0
same_untaken g c = sym c.drop-rows-in_err-hand_on.ensures ∙ sym (c.self-in_err-hand_on-1.given.1 (sym (c.next.follows.holds-at-none.same_reference ∙ (c.rows.invariant.1 ∙ c.in_ok-rows.ensures.same_reference))))

same_last : (g : Over) (c : goal.After-self-2-1 g) → c.rows.rows.conn.now ≡ c.self-2-1.given.0
same_last g c = sym c.drop-rows-2.ensures ∙ sym (c.self-2-1.given.1 (sym (c.rows.invariant.1 ∙ c.in_ok-rows.ensures.same_reference)))

pub returns-in_err-rows : goal.returns-in_err-rows
returns-in_err-rows g c = record {
  rests =
      let new = c.query.follows.lender-at-none in
      refused g.S.Store c.args.self.now new c.query.result c.in_err-rows.field-0.0 c.in_err-rows.was (clean_if_open (g.S.Store.view new.store) (g.met.S.Store.shut_if_dirty new.store)) c.requires c.query.follows.holds-at-none;
  told = λ clean v rest. let p = err_from_is_err_and c.from_residual.result c.from_residual.ensures.1 in subst (λ r. Walks g.K.Sink.takes g.K.Sink.faults r (placed_from 1 v.items) c.args.sink.now c.args.sink.now) (sym (p.1 ∙ ap Err p.2)) (record { front = []; rest = placed_from 1 v.items; parts = refl; took = refl });
  some =
      let p = err_from_is_err_and c.from_residual.result c.from_residual.ensures.1 in
      some_left g.K.Sink.takes g.K.Sink.faults c.args.sink.now c.args.sink.now c.args.sink.now _ c.from_residual.result (p.1 ∙ ap Err p.2) ([], refl);
  caused = λ clean v rest readable.
      let new = c.query.follows.lender-at-none in
      let p = err_from_is_err_and c.from_residual.result c.from_residual.ensures.1 in
      tables_caused (state g.S.Store c.args.self.now) (state g.S.Store new) c.from_residual.result _ _ p.1 p.2
      (refused_caused g.S.Store c.args.self.now new v rest c.query.result c.in_err-rows.field-0.0 c.in_err-rows.was clean c.query.follows.holds-at-none);
}

pub rows-init : goal.rows-init
rows-init g c =
    let made = c.in_ok-rows.ensures in
    (begun g.S.Store g.K.Sink.takes g.K.Sink.faults c.args.self.now c.args.sink.now c.in_ok-rows.rows.conn.now c.requires (made.mode c.requires) made.survives made.begun, refl, ([], refl))

pub returns-in_err-row : goal.returns-in_err-row
returns-in_err-row g c = record {
  rests =
      let moved = c.next.follows.holds-at-none in
      let now = c.next.follows.lender-at-none.conn.now in
      let mid = c.rows.rows.conn.now in
      let w = c.rows.invariant.0 in
      let rests : OnlyReads (state g.S.Store c.args.self.now) (state g.S.Store now) =
      walked_rests g.S.Store g.K.Sink.takes g.K.Sink.faults c.args.self.now c.args.sink.now mid now c.rows.sink c.rows.at w (clean_if_open (g.S.Store.view now.store) (g.met.S.Store.shut_if_dirty now.store)) moved.survives
      (moved.mode w.settled) (λ clean. keeps_either (state g.S.Store mid) (state g.S.Store now) c.in_err-row.field-0.0 (rw c.in_err-row.was at (moved.kept clean))) in
      subst (λ h. OnlyReads (state g.S.Store c.args.self.now) (state g.S.Store h)) (same_at_fault g c) rests;
  told = λ clean v rest.
      let moved = c.next.follows.holds-at-none in
      let now = c.next.follows.lender-at-none.conn.now in
      let late : HasCleanDisk (state g.S.Store now) = subst (λ h. HasCleanDisk (state g.S.Store h)) (sym (same_at_fault g c)) clean in
      let p = err_from_is_err_and c.from_residual-in_err-row.result c.from_residual-in_err-row.ensures.1 in
      faulted g.S.Store g.K.Sink.takes g.K.Sink.faults c.args.self.now c.args.sink.now c.rows.rows.conn.now now c.rows.sink c.rows.at c.rows.invariant.0 moved.survives late v rest c.from_residual-in_err-row.result _ (p.1 ∙ ap Err p.2);
  some =
      let p = err_from_is_err_and c.from_residual-in_err-row.result c.from_residual-in_err-row.ensures.1 in
      some_left g.K.Sink.takes g.K.Sink.faults c.args.sink.now c.rows.sink c.rows.sink _ c.from_residual-in_err-row.result (p.1 ∙ ap Err p.2) c.rows.invariant.2;
  caused = λ clean v rest readable.
      let moved = c.next.follows.holds-at-none in
      let now = c.next.follows.lender-at-none.conn.now in
      let late : HasCleanDisk (state g.S.Store now) = subst (λ h. HasCleanDisk (state g.S.Store h)) (sym (same_at_fault g c)) clean in
      let p = err_from_is_err_and c.from_residual-in_err-row.result c.from_residual-in_err-row.ensures.1 in
      let told : IfErr c.from_residual-in_err-row.result (IsCausedEnd (state g.S.Store c.args.self.now) (state g.S.Store now)) =
      tables_caused (state g.S.Store c.args.self.now) (state g.S.Store now) c.from_residual-in_err-row.result _ _ p.1 p.2
      (step_caused g.S.Store g.K.Sink.takes g.K.Sink.faults c.args.self.now c.args.sink.now c.rows.rows.conn.now now c.rows.sink c.rows.at c.rows.invariant.0 moved.survives late v rest c.in_err-row.field-0.0 (rw c.in_err-row.was at (moved.err late))) in
      subst (λ h. IfErr c.from_residual-in_err-row.result (IsCausedEnd (state g.S.Store c.args.self.now) (state g.S.Store h))) (same_at_fault g c) told;
}

pub returns-in_default : goal.returns-in_default
returns-in_default g c = record {
  rests =
      let moved = c.next.follows.holds-at-none in
      let now = c.next.follows.lender-at-none.conn.now in
      let mid = c.rows.rows.conn.now in
      let w = c.rows.invariant.0 in
      let rests : OnlyReads (state g.S.Store c.args.self.now) (state g.S.Store now) =
      walked_rests g.S.Store g.K.Sink.takes g.K.Sink.faults c.args.self.now c.args.sink.now mid now c.rows.sink c.rows.at w (clean_if_open (g.S.Store.view now.store) (g.met.S.Store.shut_if_dirty now.store)) moved.survives
      (moved.mode w.settled) (λ clean. keeps_same (state g.S.Store mid) (state g.S.Store now) (rw c.in_ok-row.was at (moved.same clean))) in
      subst (λ h. OnlyReads (state g.S.Store c.args.self.now) (state g.S.Store h)) (same_at_end g c) rests;
  told = λ clean v rest.
      let moved = c.next.follows.holds-at-none in
      let now = c.next.follows.lender-at-none.conn.now in
      let late : HasCleanDisk (state g.S.Store now) = subst (λ h. HasCleanDisk (state g.S.Store h)) (sym (same_at_end g c)) clean in
      all_taken g.S.Store g.K.Sink.takes g.K.Sink.faults c.args.self.now c.args.sink.now c.rows.rows.conn.now now c.rows.sink c.rows.at c.rows.invariant.0 moved.survives
      (λ late rows given. (rw (c.in_ok-row.was, c.in_default.is) at (moved.ok late)) select_all [] rows given) late v rest;
  some = some_all g.K.Sink.takes g.K.Sink.faults c.args.sink.now c.rows.sink c.rows.sink _ _ refl c.rows.invariant.2;
  caused = λ clean v rest readable. tt;
}

pub returns-in_err-hand_on : goal.returns-in_err-hand_on
returns-in_err-hand_on g c = record {
  rests =
      let moved = c.next.follows.holds-at-none in
      let now = c.next.follows.lender-at-none.conn.now in
      let mid = c.rows.rows.conn.now in
      let w = c.rows.invariant.0 in
      let rests : OnlyReads (state g.S.Store c.args.self.now) (state g.S.Store now) =
      walked_rests g.S.Store g.K.Sink.takes g.K.Sink.faults c.args.self.now c.args.sink.now mid now c.rows.sink c.rows.at w (clean_if_open (g.S.Store.view now.store) (g.met.S.Store.shut_if_dirty now.store)) moved.survives
      (moved.mode w.settled) (λ clean. keeps_same (state g.S.Store mid) (state g.S.Store now) (rw c.in_ok-row.was at (moved.same clean))) in
      subst (λ h. OnlyReads (state g.S.Store c.args.self.now) (state g.S.Store h)) (same_untaken g c) rests;
  told = λ clean v rest.
      let moved = c.next.follows.holds-at-none in
      let now = c.next.follows.lender-at-none.conn.now in
      let late : HasCleanDisk (state g.S.Store now) = subst (λ h. HasCleanDisk (state g.S.Store h)) (sym (same_untaken g c)) clean in
      let p = err_from_is_err_and c.from_residual-in_err-hand_on.result c.from_residual-in_err-hand_on.ensures.1 in
      not_taken g.S.Store g.K.Sink.takes g.K.Sink.faults c.args.self.now c.args.sink.now c.rows.rows.conn.now now c.rows.sink c.hand_on.new.sink c.rows.at c.in-Some.row.now c.hand_on.result c.in_err-hand_on.field-0.0
      c.from_residual-in_err-hand_on.result c.rows.invariant.0 moved.survives (λ late. rw c.in_ok-row.was at (moved.same late))
      (λ late rows given. (rw (c.in_ok-row.was, c.in-Some.is) at (moved.ok late)) select_all [] rows given) c.in_err-hand_on.was (p.1 ∙ ap Err p.2) c.hand_on.ensures.one late v rest;
  some =
      let p = err_from_is_err_and c.from_residual-in_err-hand_on.result c.from_residual-in_err-hand_on.ensures.1 in
      some_stopped g.K.Sink.takes g.K.Sink.faults c.args.sink.now c.rows.sink c.hand_on.new.sink c.hand_on.result c.in_err-hand_on.field-0.0 c.from_residual-in_err-hand_on.result c.in_err-hand_on.was (p.1 ∙ ap Err p.2) c.rows.invariant.2 c.hand_on.ensures.some;
  caused = λ clean v rest readable.
      let moved = c.next.follows.holds-at-none in
      let now = c.next.follows.lender-at-none.conn.now in
      let late : HasCleanDisk (state g.S.Store now) = subst (λ h. HasCleanDisk (state g.S.Store h)) (sym (same_untaken g c)) clean in
      let p = err_from_is_err_and c.from_residual-in_err-hand_on.result c.from_residual-in_err-hand_on.ensures.1 in
      let told : IfErr c.from_residual-in_err-hand_on.result (IsCausedEnd (state g.S.Store c.args.self.now) (state g.S.Store now)) =
      end_caused (state g.S.Store c.args.self.now) (state g.S.Store now) c.from_residual-in_err-hand_on.result _ _ p.1 p.2
      (unread_caused g.S.Store g.K.Sink.takes g.K.Sink.faults c.args.self.now c.args.sink.now c.rows.rows.conn.now now c.rows.sink c.rows.at c.in-Some.row.now c.rows.invariant.0 moved.survives (λ late. rw c.in_ok-row.was at (moved.same late))
      (λ late rows given. (rw (c.in_ok-row.was, c.in-Some.is) at (moved.ok late)) select_all [] rows given) late v rest readable c.in_err-hand_on.field-0.0 c.in_err-hand_on.ensures.unread) in
      subst (λ h. IfErr c.from_residual-in_err-hand_on.result (IsCausedEnd (state g.S.Store c.args.self.now) (state g.S.Store h))) (same_untaken g c) told;
}

pub rows-preserved : goal.rows-preserved
rows-preserved g c =
    let moved = c.next.follows.holds-at-none in
    let now = c.next.follows.lender-at-none.conn.now in
    let w = c.rows.invariant.0 in (
      taken g.S.Store g.K.Sink.takes g.K.Sink.faults c.args.self.now c.args.sink.now c.rows.rows.conn.now now c.rows.sink c.hand_on.new.sink c.rows.at c.in-Some.row.now c.hand_on.result _ w moved.survives (moved.mode w.settled)
          (λ late. rw c.in_ok-row.was at (moved.same late)) (λ late rows given. (rw (c.in_ok-row.was, c.in-Some.is) at (moved.ok late)) select_all [] rows given) c.in_ok-hand_on.was c.hand_on.ensures.one,
      moved.same_reference ∙ c.rows.invariant.1,
      took_more g.K.Sink.takes g.K.Sink.faults c.args.sink.now c.rows.sink c.hand_on.new.sink c.hand_on.result _ c.in_ok-hand_on.was c.rows.invariant.2 c.hand_on.ensures.some,
    )

pub returns : goal.returns
returns g c = record {
  rests =
      let mid = c.rows.rows.conn.now in
      let rests = walk_rests g.S.Store g.K.Sink.takes g.K.Sink.faults c.args.self.now c.args.sink.now mid c.rows.sink c.rows.at c.rows.invariant.0 (clean_if_open (g.S.Store.view mid.store) (g.met.S.Store.shut_if_dirty mid.store)) in
      subst (λ h. OnlyReads (state g.S.Store c.args.self.now) (state g.S.Store h)) (same_last g c) rests;
  told = λ clean v rest.
      let late : HasCleanDisk (state g.S.Store c.rows.rows.conn.now) = subst (λ h. HasCleanDisk (state g.S.Store h)) (sym (same_last g c)) clean in
      record { front = take c.rows.at (placed_from 1 v.items); rest = drop c.rows.at (placed_from 1 v.items); parts = sym (take-append-drop c.rows.at (placed_from 1 v.items)); took = c.rows.invariant.0.took late v rest };
  some = some_left g.K.Sink.takes g.K.Sink.faults c.args.sink.now c.rows.sink c.rows.sink _ _ refl c.rows.invariant.2;
  caused = λ clean v rest readable.
      let late : HasCleanDisk (state g.S.Store c.rows.rows.conn.now) = subst (λ h. HasCleanDisk (state g.S.Store h)) (sym (same_last g c)) clean in
      never_so_many g.S.Store g.K.Sink.takes g.K.Sink.faults c.args.self.now c.args.sink.now c.rows.rows.conn.now c.rows.sink c.rows.at c.rows.invariant.0 late v rest readable (let many = c.rows-test.false in omega (arith, many));
}
