use Rattle.std.proofs.Common.{◌≡◌, Ok, Err, IsTrue, inl, inr, refl, subst, sym, ap, ◌∙◌}
use Rattle.std.specs.Prelude.{not}
use Rattle.pid_tables.proofs.OfRows.LeaveLemmas.{rests_in_two}
use Rattle.pid_tables.proofs.AtOnceLemmas.{reads_back}
use Rattle.pid_service.proofs.Words.{Ghosts, MovesAtOnce, MovesJudged, MovesShown, MovesTo, views_of}
use Rattle.pid_service.proofs.Keeping.{true_not}
use Rattle.pid_service.proofs.Opened.{moved, seen_back}
use Rattle.pid_file.proofs.OneMoreLine.{not_false, not_true}
use Rattle.pid_service.proofs.Reached.{reached_sound}
use Rattle.pid_service.proofs.opening.migrate.Goals as goal

-- what is so of a connection is so of tables over it
settled_still : {S : Type 0} (database : Ghosts S) {a b : S} → a ≡ b → (IsTrue (database.state b).is_open → (database.state b).now ≡ (database.state b).committed) → IsTrue (database.state a).is_open → (database.state a).now ≡ (database.state a).committed
settled_still database same settled = subst (λ x. IsTrue (database.state x).is_open → (database.state x).now ≡ (database.state x).committed) (sym same) settled

-- ---- within a transaction

pub returns-then-not-is_autocommit : goal.returns-then-not-is_autocommit
returns-then-not-is_autocommit g c =
    let within = not_false (g.C.Database.state c.args.conn).in_transaction (sym c.is_autocommit.ensures.value ∙ c.if-not-is_autocommit.true) in
    record {
      busy = λ on. refl;
      history = record {
        clean = λ clean. clean;
        created = λ bare clean. (tt, inr (inr (bare, refl)));
        moved = λ h reached older clean. (tt, inr (inl older));
        already = λ h reached rest clean. (tt, inl rest);
      };
      at_once = true_not (g.C.Database.state c.args.conn).in_transaction within;
      shown = true_not (g.C.Database.state c.args.conn).in_transaction within;
      judged = true_not (g.C.Database.state c.args.conn).in_transaction within;
    }

pub returns-in-Ok : goal.returns-in-Ok
returns-in-Ok g c = record {
  busy = λ on. true_not (g.C.Database.state c.args.conn).in_transaction on (not_true (g.C.Database.state c.args.conn).in_transaction (sym c.is_autocommit.ensures.value ∙ c.if-not-is_autocommit.false));
  history =
      moved (λ x y. MovesTo g.C.Database.state x (Ok (y, c.in-Ok.step))) c.new-tables.ensures c.into_conn-conn.ensures
      (record {
        clean = c.migrate-moved.ensures.at_once.clean;
        created = λ bare clean. c.in-Ok.ensures.shown.created clean bare;
        moved = λ h reached older clean. c.in-Ok.ensures.shown.moved clean h (reached_sound h reached) older;
        already = λ h reached rest clean.
            let so = c.in-Ok.ensures.shown.already clean (views_of h) (rests_in_two (g.C.Database.state c.new-tables.result.conn) (views_of h) rest) in
            (so.0, so.1.kept (views_of h) rest);
      });
  at_once = λ off.
      moved (λ x y. MovesAtOnce g.C.Database.state x (Ok (y, c.in-Ok.step))) c.new-tables.ensures c.into_conn-conn.ensures
      (let old = g.C.Database.state c.new-tables.result.conn in
      let new = g.C.Database.state c.migrate-moved.new.self.conn in
      record {
        settled = c.migrate-moved.ensures.at_once.settled;
        once = c.migrate-moved.ensures.at_once.once;
        back = tt;
        made = c.migrate-moved.ensures.none.made;
        done = λ clean none. c.in-Ok.ensures.none.done clean none;
        moved = c.migrate-moved.ensures.judged.moved;
        raised = λ clean is. c.in-Ok.ensures.judged.done clean is;
        unchanged = λ is. seen_back old new (settled_still g.C.Database c.new-tables.ensures (c.is_autocommit.ensures.settled (c.is_autocommit.ensures.value ∙ ap not off))) (reads_back old new (c.in-Ok.ensures.judged.only_read is));
        only_read = λ is. c.in-Ok.ensures.judged.only_read is;
      });
  shown = λ off.
      moved (λ x y. MovesShown g.C.Database.state x (Ok (y, c.in-Ok.step))) c.new-tables.ensures c.into_conn-conn.ensures
      (record {
        left_alone = λ v rest clean. let so = c.in-Ok.ensures.shown.already clean v rest in (so.1, so.0);
        explained = λ v rest clean. tt;
        kept = λ clean version v rest. c.in-Ok.ensures.shown.kept clean version v rest;
      });
  judged = λ off.
      moved (λ x y. MovesJudged g.C.Database.state x (Ok (y, c.in-Ok.step))) c.new-tables.ensures c.into_conn-conn.ensures
      (record {
        told = λ clean some. c.in-Ok.ensures.judged.found clean some;
        named = λ clean is. c.in-Ok.ensures.judged.named clean is;
        latest = λ clean opened. c.in-Ok.ensures.judged.latest clean opened;
        bare = λ clean none. c.in-Ok.ensures.none.bare clean none;
        met = λ clean none met. c.in-Ok.ensures.none.met clean none met;
        shut = λ clean closed. c.in-Ok.ensures.none.shut clean closed;
      });
}

pub returns-in-Err : goal.returns-in-Err
returns-in-Err g c = record {
  busy = λ on. true_not (g.C.Database.state c.args.conn).in_transaction on (not_true (g.C.Database.state c.args.conn).in_transaction (sym c.is_autocommit.ensures.value ∙ c.if-not-is_autocommit.false));
  history =
      moved (λ x y. MovesTo g.C.Database.state x (Err (c.in-Err.fault, y))) c.new-tables.ensures c.into_conn-conn.ensures
      (record {
        clean = c.migrate-moved.ensures.at_once.clean;
        created = λ bare clean. let so = c.in-Err.ensures.shown.created clean bare in (so.0, inr (inr (so.1, refl)));
        moved = λ h reached older clean. let so = c.in-Err.ensures.shown.moved clean h (reached_sound h reached) older in (so.0, inr (inl so.1));
        already = λ h reached rest clean.
            let so = c.in-Err.ensures.shown.already clean (views_of h) (rests_in_two (g.C.Database.state c.new-tables.result.conn) (views_of h) rest) in
            (so.0, inl (so.1.kept (views_of h) rest));
      });
  at_once = λ off.
      moved (λ x y. MovesAtOnce g.C.Database.state x (Err (c.in-Err.fault, y))) c.new-tables.ensures c.into_conn-conn.ensures
      (record {
        settled = c.migrate-moved.ensures.at_once.settled;
        once = c.migrate-moved.ensures.at_once.once;
        back = c.in-Err.ensures.at_once.back;
        made = c.migrate-moved.ensures.none.made;
        done = λ clean none. tt;
        moved = c.migrate-moved.ensures.judged.moved;
        raised = λ clean. tt;
        unchanged = seen_back (g.C.Database.state c.new-tables.result.conn) (g.C.Database.state c.migrate-moved.new.self.conn) (settled_still g.C.Database c.new-tables.ensures (c.is_autocommit.ensures.settled (c.is_autocommit.ensures.value ∙ ap not off))) c.in-Err.ensures.at_once.back;
        only_read = λ clean told. c.in-Err.ensures.at_once.unchanged clean told;
      });
  shown = λ off.
      moved (λ x y. MovesShown g.C.Database.state x (Err (c.in-Err.fault, y))) c.new-tables.ensures c.into_conn-conn.ensures
      (record {
        left_alone = λ v rest clean. let so = c.in-Err.ensures.shown.already clean v rest in (so.1, so.0);
        explained = λ v rest clean. c.in-Err.ensures.shown.told clean v rest;
        kept = λ clean. tt;
      });
  judged = λ off.
      moved (λ x y. MovesJudged g.C.Database.state x (Err (c.in-Err.fault, y))) c.new-tables.ensures c.into_conn-conn.ensures
      (record {
        told = λ clean some. c.in-Err.ensures.judged.found clean some;
        named = λ clean. tt;
        latest = λ clean. tt;
        bare = λ clean none. c.in-Err.ensures.none.bare clean none;
        met = λ clean none met. c.in-Err.ensures.none.met clean none met;
        shut = λ clean closed. c.in-Err.ensures.none.shut clean closed;
      });
}
