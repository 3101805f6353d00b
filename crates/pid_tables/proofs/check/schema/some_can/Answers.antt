use Rattle.std.proofs.Common.{[], ◌↔◌, IsTrue, refl, arith, sym, subst, ◌∙◌}
use Rattle.std.proofs.lemmas.Bool.{false≢true}
use Rattle.pid_tables.specs.Rows.Causes.{IsCaused}
use Rattle.pid_tables.specs.Rows.Steps.Queries.{IsQuery}
use Rattle.pid_tables.specs.Rows.Schema.{pid_schema}
use Rattle.pid_tables.proofs.OfRows.CauseLemmas.{passed_from, no_value}
use Rattle.pid_tables.proofs.OfRows.OnlyReading.{reads_then}
use Rattle.pid_tables.proofs.OfCheck.AskedTexts.{is_query}
use Rattle.pid_tables.specs.declared.check.schema.Table.{Table}
use Rattle.pid_tables.specs.Check.Queries.{query_of}
use Rattle.pid_tables.specs.Check.Shapes.{CanBeAsked}
use Rattle.pid_tables.proofs.OfCheck.Asking.{same_then, none_yet, one_found, still_open, caused_then}
use Rattle.pid_tables.specs.Rows.Faults.{IsMemoryOrStore}
use Rattle.pid_tables.proofs.check.schema.some_can.Goals as goal

pub loop-table-preserved : goal.loop-table-preserved
loop-table-preserved g c =
    let a = g.C.Database.state c.args.tables.now.conn in
    let b = g.C.Database.state c.loop-table.tables.conn in
    let d = g.C.Database.state c.can_ask.new.tables.conn in
    let rests = c.in_ok-can_ask.ensures.asks.rests in (
      same_then a b d c.loop-table.invariant.0 rests c.in_ok-can_ask.ensures.asks.same,
      none_yet a b d c.args.listed.now c.loop-table.table-index _ c.query.result.now c.query.ensures c.in_ok-can_ask.field-0 c.loop-table-test.true c.loop-table.invariant.0 rests c.in_ok-can_ask.ensures.asks.asked c.args.can c.if-branch-can.false c.loop-table.invariant.1,
      λ zero. absurd (omega (arith, zero)),
      λ clean more. still_open g.C.Database.state c.args.tables.now.conn c.loop-table.tables.conn d c.loop-table.table-index rests c.loop-table.invariant.2 c.loop-table.invariant.3 (c.in_ok-can_ask.ensures.was_open clean) clean,
    )

pub returns-then-branch-can-clause-was_open : goal.returns-then-branch-can-clause-was_open
returns-then-branch-can-clause-was_open g c clean some =
    still_open g.C.Database.state c.args.tables.now.conn c.loop-table.tables.conn (g.C.Database.state c.can_ask.new.tables.conn) c.loop-table.table-index c.in_ok-can_ask.ensures.asks.rests c.loop-table.invariant.2 c.loop-table.invariant.3 (c.in_ok-can_ask.ensures.was_open clean) clean

pub returns-in_err-can_ask-clause-caused : goal.returns-in_err-can_ask-clause-caused
returns-in_err-can_ask-clause-caused g c clean v rest =
    let a = g.C.Database.state c.args.tables.now.conn in
    let b = g.C.Database.state c.loop-table.tables.conn in
    let d = g.C.Database.state c.can_ask.new.tables.conn in
    let rests = c.in_err-can_ask.ensures.asks.rests in
    let one = c.loop-table.invariant.0 in
    passed_from c.from_residual.result _ (IsCaused a d) c.from_residual.ensures.1
    (caused_then a b d c.in_err-can_ask.field-0.0 one rests clean (c.in_err-can_ask.ensures.caused clean v (one.0.kept v rest) (subst (λ text. IsQuery pid_schema text []) (sym c.query.ensures) (is_query _))))

pub returns-clause-asks : goal.returns-clause-asks
returns-clause-asks g c = record {
  rests = c.loop-table.invariant.0.0;
  same = λ clean. c.loop-table.invariant.0.1 clean;
  asked = λ clean. (
    λ off. absurd (false≢true off),
    λ any. absurd (c.loop-table.invariant.1 clean any.0 any.1 (omega (arith, any.2, c.loop-table-test.false)) (subst (λ (t : Table). IsTrue c.args.can ↔ CanBeAsked (g.C.Database.state c.args.tables.now.conn).now.schema (query_of t)) (sym any.3) any.4)),
  );
  only_store = tt;
}

pub returns-then-branch-can-clause-asks : goal.returns-then-branch-can-clause-asks
returns-then-branch-can-clause-asks g c = record {
  rests = reads_then (g.C.Database.state c.args.tables.now.conn) (g.C.Database.state c.loop-table.tables.conn) (g.C.Database.state c.can_ask.new.tables.conn) c.loop-table.invariant.0.0 c.can_ask.ensures.asks.rests;
  same = λ clean. c.in_ok-can_ask.ensures.asks.same clean ∙ c.loop-table.invariant.0.1 (c.can_ask.ensures.asks.rests.clean clean);
  asked = λ clean.
      let a = g.C.Database.state c.args.tables.now.conn in
      let b = g.C.Database.state c.loop-table.tables.conn in
      let d = g.C.Database.state c.can_ask.new.tables.conn in
      (λ yes. one_found a b d c.args.listed.now c.loop-table.table-index _ c.query.result.now c.query.ensures c.in_ok-can_ask.field-0 c.loop-table-test.true c.loop-table.invariant.0 c.in_ok-can_ask.ensures.asks.rests c.in_ok-can_ask.ensures.asks.asked c.args.can c.if-branch-can.true clean, λ any. refl);
  only_store = tt;
}

-- ---- what it leaves

pub returns-in_err-can_ask-clause-asks : goal.returns-in_err-can_ask-clause-asks
returns-in_err-can_ask-clause-asks g c = record {
  rests = reads_then (g.C.Database.state c.args.tables.now.conn) (g.C.Database.state c.loop-table.tables.conn) (g.C.Database.state c.can_ask.new.tables.conn) c.loop-table.invariant.0.0 c.can_ask.ensures.asks.rests;
  same = λ clean. no_value c.from_residual.result _ _ c.from_residual.ensures.1;
  asked = λ clean. no_value c.from_residual.result _ _ c.from_residual.ensures.1;
  only_store = passed_from c.from_residual.result _ IsMemoryOrStore c.from_residual.ensures.1 c.in_err-can_ask.ensures.asks.only_store;
}
