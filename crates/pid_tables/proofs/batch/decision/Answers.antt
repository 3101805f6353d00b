use Rattle.std.proofs.Common.{sym, subst, ◌∙◌}
use Rattle.pid_tables.specs.Rows.Faults.{IsMemoryOrStore}
use Rattle.pid_tables.specs.Rows.Steps.Shows.{ShowsCounting}
use Rattle.pid_tables.proofs.OfRows.CauseLemmas.{passed_on}
use Rattle.pid_tables.proofs.OfRows.GoingLemmas.{earlier, goes_then}
use Rattle.pid_tables.proofs.ChangeLemmas.{undecided}
use Rattle.pid_tables.proofs.MoveLemmas.{goes_fault, goes_fault_after, goes_value}
use Rattle.pid_tables.proofs.batch.decision.Goals as goal

pub returns-in-None : goal.returns-in-None
returns-in-None g c = record {
  same_reference = c.decide.ensures.same_reference;
  goes = goes_value (g.B.Batch.batch.state c.args.batch.now) (g.B.Batch.batch.state c.decide.new.tx) _ _ c.in_ok-decide.ensures.goes;
  shows = rw c.in-None.is (λ clean inside counts v shows fits.
      subst (λ w. ShowsCounting counts (g.B.Batch.batch.state c.decide.new.tx).now w) (sym (undecided c.args.revision c.args.number c.args.state.now v)) (c.in_ok-decide.ensures.shows clean inside counts v shows fits.0));
}

pub returns-in_ok-edited-in-Some : goal.returns-in_ok-edited-in-Some
returns-in_ok-edited-in-Some g c = record {
  same_reference = c.count_items.ensures.same_reference ∙ (c.edit_item-edited.ensures.same_reference ∙ c.decide.ensures.same_reference);
  goes =
      let a = g.B.Batch.batch.state c.decide.new.tx in
      let end = g.B.Batch.batch.state c.count_items.new.tx in
      goes_then (g.B.Batch.batch.state c.args.batch.now) a end _ c.count_items.result c.in_ok-decide.ensures.goes
      (goes_then a (g.B.Batch.batch.state c.edit_item-edited.new.batch) end _ c.count_items.result c.in_ok-edited-in-Some.ensures.goes c.count_items.ensures.goes);
  shows = rw c.in-Some.is (λ clean inside counts v shows fits.
      let late = earlier (g.B.Batch.batch.state c.edit_item-edited.new.batch) _ c.count_items.ensures.goes.survives clean in
      let early = earlier (g.B.Batch.batch.state c.decide.new.tx) _ c.edit_item-edited.ensures.goes.survives late in
      let first = c.in_ok-decide.ensures in
      let second = c.in_ok-edited-in-Some.ensures in
      let wrote = rw (c.as_str.ensures.value, c.in_ok-path-in-Some.ensures) at second.shows in
      let within = (first.goes.going early inside).1 in
      c.count_items.ensures.shows clean (second.goes.going late within).1 counts _ (wrote late within counts _ (first.shows early inside counts v shows fits.0) fits.1.1) tt);
}

pub returns-in_err-edited-in-Some : goal.returns-in_err-edited-in-Some
returns-in_err-edited-in-Some g c = record {
  same_reference = c.edit_item-edited.ensures.same_reference ∙ c.decide.ensures.same_reference;
  goes =
      goes_fault_after (g.B.Batch.batch.state c.args.batch.now) (g.B.Batch.batch.state c.decide.new.tx) (g.B.Batch.batch.state c.edit_item-edited.new.batch) _ _
      c.from_residual-in_err-edited-in-Some.result c.from_residual-in_err-edited-in-Some.ensures.1 c.in_ok-decide.ensures.goes c.in_err-edited-in-Some.ensures.goes;
  shows = rw c.in-Some.is (λ clean inside counts v shows fits.
      let early = earlier (g.B.Batch.batch.state c.decide.new.tx) _ c.edit_item-edited.ensures.goes.survives clean in
      let first = c.in_ok-decide.ensures in
      let wrote = rw (c.as_str.ensures.value, c.in_ok-path-in-Some.ensures) at c.in_err-edited-in-Some.ensures.shows in
      passed_on c.from_residual-in_err-edited-in-Some.result _ _ IsMemoryOrStore c.from_residual-in_err-edited-in-Some.ensures.1
      (wrote clean (first.goes.going early inside).1 counts _ (first.shows early inside counts v shows fits.0) fits.1.1));
}

pub returns-in_err-decide : goal.returns-in_err-decide
returns-in_err-decide g c = record {
  same_reference = c.decide.ensures.same_reference;
  goes =
      goes_fault (g.B.Batch.batch.state c.args.batch.now) (g.B.Batch.batch.state c.decide.new.tx) _ c.from_residual.result c.from_residual.ensures.1 c.in_err-decide.ensures.goes;
  shows = λ clean inside counts v shows fits.
      passed_on c.from_residual.result _ _ IsMemoryOrStore c.from_residual.ensures.1 (c.in_err-decide.ensures.shows clean inside counts v shows fits.0);
}
