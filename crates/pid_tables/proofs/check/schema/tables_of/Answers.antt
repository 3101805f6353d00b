use Rattle.std.proofs.Common.{subst, sym, ◌∙◌}
use Rattle.sqlite.specs.Effect.{Database}
use Rattle.pid_tables.proofs.OfRows.OnlyReading.{reads_then}
use Rattle.pid_tables.specs.Check.Shapes.{CanBeAsked}
use Rattle.pid_tables.proofs.OfCheck.Telling.{neither, off_on}
use Rattle.pid_tables.specs.Rows.Faults.{IsMemoryOrStore}
use Rattle.pid_tables.proofs.OfRows.CauseLemmas.{passed_from, no_value}
use Rattle.pid_tables.proofs.check.schema.tables_of.Goals as goal

pub returns-then-not-branch : goal.returns-then-not-branch
returns-then-not-branch g c = record {
  rests = c.in_ok-can_ask.ensures.asks.rests;
  same = λ clean. c.in_ok-can_ask.ensures.asks.same clean;
  asked = λ clean each. (each, λ since. off_on _ c.if-not-branch.true ((c.in_ok-can_ask.ensures.asks.asked clean).1 since));
  only_store = tt;
}

pub returns-in_err-can_ask-2 : goal.returns-in_err-can_ask-2
returns-in_err-can_ask-2 g c = record {
  rests = reads_then (g.C.Database.state c.args.tables.now.conn) (g.C.Database.state c.can_ask.new.tables.conn) (g.C.Database.state c.can_ask-2.new.tables.conn) c.in_ok-can_ask.ensures.asks.rests c.in_err-can_ask-2.ensures.asks.rests;
  same = λ clean. no_value c.from_residual-in_err-can_ask-2.result _ _ c.from_residual-in_err-can_ask-2.ensures.1;
  asked = λ clean. no_value c.from_residual-in_err-can_ask-2.result _ _ c.from_residual-in_err-can_ask-2.ensures.1;
  only_store = passed_from c.from_residual-in_err-can_ask-2.result _ IsMemoryOrStore c.from_residual-in_err-can_ask-2.ensures.1 c.in_err-can_ask-2.ensures.asks.only_store;
}

pub returns-then-branch : goal.returns-then-branch
returns-then-branch g c = record {
  rests = reads_then (g.C.Database.state c.args.tables.now.conn) (g.C.Database.state c.can_ask.new.tables.conn) (g.C.Database.state c.can_ask-2.new.tables.conn) c.in_ok-can_ask.ensures.asks.rests c.in_ok-can_ask-2.ensures.asks.rests;
  same = λ clean. c.in_ok-can_ask-2.ensures.asks.same clean ∙ c.in_ok-can_ask.ensures.asks.same (c.in_ok-can_ask-2.ensures.asks.rests.clean clean);
  asked = λ clean each.
      let a = (g.C.Database.state c.args.tables.now.conn).now in
      let mid = c.in_ok-can_ask-2.ensures.asks.rests.clean clean in
      let asked = subst (λ (d : Database). CanBeAsked d.schema c.query.result.now) (c.in_ok-can_ask.ensures.asks.same mid) ((c.in_ok-can_ask-2.ensures.asks.asked clean).0 c.if-branch.true) in
      (each, (c.in_ok-can_ask.ensures.asks.asked mid).0 c.if-not-branch.false, subst (CanBeAsked a.schema) c.query.ensures asked);
  only_store = tt;
}

pub returns : goal.returns
returns g c = record {
  rests = reads_then (g.C.Database.state c.args.tables.now.conn) (g.C.Database.state c.can_ask.new.tables.conn) (g.C.Database.state c.can_ask-2.new.tables.conn) c.in_ok-can_ask.ensures.asks.rests c.in_ok-can_ask-2.ensures.asks.rests;
  same = λ clean. c.in_ok-can_ask-2.ensures.asks.same clean ∙ c.in_ok-can_ask.ensures.asks.same (c.in_ok-can_ask-2.ensures.asks.rests.clean clean);
  asked = λ clean each.
      let a = (g.C.Database.state c.args.tables.now.conn).now in
      let mid = c.in_ok-can_ask-2.ensures.asks.rests.clean clean in
      neither a.schema ((c.in_ok-can_ask.ensures.asks.asked mid).0 c.if-not-branch.false) (λ own.
      off_on _ c.if-branch.false ((c.in_ok-can_ask-2.ensures.asks.asked clean).1 (subst (λ (d : Database). CanBeAsked d.schema c.query.result.now) (sym (c.in_ok-can_ask.ensures.asks.same mid)) (subst (CanBeAsked a.schema) (sym c.query.ensures) own))));
  only_store = tt;
}

pub returns-in_err-can_ask : goal.returns-in_err-can_ask
returns-in_err-can_ask g c = record {
  rests = c.in_err-can_ask.ensures.asks.rests;
  same = λ clean. no_value c.from_residual.result _ _ c.from_residual.ensures.1;
  asked = λ clean. no_value c.from_residual.result _ _ c.from_residual.ensures.1;
  only_store = passed_from c.from_residual.result _ IsMemoryOrStore c.from_residual.ensures.1 c.in_err-can_ask.ensures.asks.only_store;
}
