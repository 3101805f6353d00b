use Rattle.std.proofs.Common.{inl, refl, sym, subst, ◌∙◌}
use Rattle.pid_tables.specs.Rows.Clauses.{HasCleanDisk}
use Rattle.pid_tables.specs.Rows.Faults.{IsMemoryOrStore}
use Rattle.pid_tables.specs.Clauses.{ShowsOrBlank}
use Rattle.pid_tables.proofs.AtOnceLemmas.{reads_back, reads_once, reads_never}
use Rattle.pid_tables.proofs.OfCheck.Asking.{nothing_read}
use Rattle.pid_service.proofs.Words.{Fails, views_of}
use Rattle.pid_service.proofs.Opened.{at_once_of, explains_of, kept_of, moved}
use Rattle.pid_service.proofs.Keeping.{nothing_kept, true_not}
use Rattle.pid_file.proofs.OneMoreLine.{not_false, not_true}
use Rattle.pid_service.proofs.opening.open.Goals as goal

-- ---- within a transaction

pub returns-then-not-is_autocommit : goal.returns-then-not-is_autocommit
returns-then-not-is_autocommit g c =
    let within = not_false (g.C.Database.state c.args.conn).in_transaction (sym c.is_autocommit.ensures.value ∙ c.if-not-is_autocommit.true) in
    record {
      busy = λ on. refl;
      history = record { clean = λ clean. clean; opened = λ h reached shown clean. (tt, shown) };
      registry = true_not (g.C.Database.state c.args.conn).in_transaction within;
      at_once = true_not (g.C.Database.state c.args.conn).in_transaction within;
      explains = true_not (g.C.Database.state c.args.conn).in_transaction within;
    }

pub returns-in_default : goal.returns-in_default
returns-in_default g c = record {
  busy = λ on. true_not (g.C.Database.state c.args.conn).in_transaction on (not_true (g.C.Database.state c.args.conn).in_transaction (sym c.is_autocommit.ensures.value ∙ c.if-not-is_autocommit.false));
  history = record { clean = λ clean. clean; opened = λ h reached shown clean. (tt, shown) };
  registry = λ off. record { lives = tt; kept = record { judged = λ clean. tt; kept = λ clean. tt } };
  at_once = λ off.
      let here = g.C.Database.state c.args.conn in
      let same = nothing_read here off in
      record { settled = off; clean = λ clean. clean; once = reads_once here here same; back = inl (reads_back here here same); made = λ none. reads_never _ here here same; done = λ clean none. tt; moved = λ some. reads_never _ here here same; raised = λ clean some. tt };
  explains = λ off.
      let same = nothing_read (g.C.Database.state c.args.conn) off in
      record {
        told = λ clean some. inl (Fails tt same);
        only_read = λ clean some none. same;
        explained = λ clean v rest. inl tt;
        bare = λ clean none. inl tt;
        met = λ clean none met. (tt, same);
        shut = λ clean closed. (tt, same);
      };
}

pub returns-in-Ok-make_ready : goal.returns-in-Ok-make_ready
returns-in-Ok-make_ready g c = record {
  busy = λ on. true_not (g.C.Database.state c.args.conn).in_transaction on (not_true (g.C.Database.state c.args.conn).in_transaction (sym c.is_autocommit.ensures.value ∙ c.if-not-is_autocommit.false));
  history =
      let once = at_once_of c.new-tables.ensures refl c.in-Ok-make_ready.ensures.at_once in
      record {
        clean = once.clean;
        opened = λ h reached shown clean. record {
          lives = refl;
          history = reached;
          tables = c.in-Ok-make_ready.ensures.ready clean h reached (subst (λ k. ShowsOrBlank g.C.Database.state k h) (sym c.new-tables.ensures) shown);
          kept = λ clean. nothing_kept c.in-Ok.kept (views_of h) c.in-Ok.ensures;
        };
      };
  registry = λ off. record { lives = refl; kept = kept_of c.new-tables.ensures refl c.in-Ok-make_ready.ensures.kept };
  at_once = λ off. at_once_of c.new-tables.ensures refl c.in-Ok-make_ready.ensures.at_once;
  explains = λ off. explains_of c.new-tables.ensures refl c.in-Ok-make_ready.ensures.explains;
}

pub returns-in-Err : goal.returns-in-Err
returns-in-Err g c = record {
  busy = λ on. true_not (g.C.Database.state c.args.conn).in_transaction on (not_true (g.C.Database.state c.args.conn).in_transaction (sym c.is_autocommit.ensures.value ∙ c.if-not-is_autocommit.false));
  history =
      let once = at_once_of c.new-tables.ensures c.into_conn.ensures c.in-Err.ensures.at_once in
      record {
        clean = once.clean;
        opened = λ h reached.
            moved (λ x y. ShowsOrBlank g.C.Database.state x h → HasCleanDisk g.C.Database.state y → IsMemoryOrStore c.in-Err.fault × ShowsOrBlank g.C.Database.state y h) c.new-tables.ensures c.into_conn.ensures
            (λ shown clean. c.in-Err.ensures.ready clean h reached shown);
      };
  registry = λ off. record { lives = tt; kept = record { judged = λ clean. tt; kept = λ clean. tt } };
  at_once = λ off. at_once_of c.new-tables.ensures c.into_conn.ensures c.in-Err.ensures.at_once;
  explains = λ off. explains_of c.new-tables.ensures c.into_conn.ensures c.in-Err.ensures.explains;
}
