use Rattle.std.proofs.Common.{Ok, Some, None, subst, ◌∙◌}
use Rattle.pid_moderation.specs.Changes.{FitsReceipt}
use Rattle.pid_tables.specs.Rows.Faults.{IsMemoryOrStore}
use Rattle.pid_tables.proofs.OfRows.CauseLemmas.{passed_on}
use Rattle.pid_tables.proofs.OfRows.GoingLemmas.{earlier, goes_then}
use Rattle.pid_tables.specs.Steps.Applies.{recounted}
use Rattle.pid_tables.proofs.ApplyLemmas.{receipt_still_fits, whole_with, either_side}
use Rattle.pid_tables.proofs.MoveLemmas.{goes_fault, goes_fault_after, goes_value}
use Rattle.pid_tables.proofs.batch.write_change.Goals as goal

pub returns-in_err-write_effect : goal.returns-in_err-write_effect
returns-in_err-write_effect g c = record {
  same_reference = c.write_effect.ensures.same_reference;
  goes =
      goes_fault (g.B.Batch.batch.state c.args.batch.now) (g.B.Batch.batch.state c.write_effect.new.batch) _ c.from_residual.result c.from_residual.ensures.1 c.in_err-write_effect.ensures.goes;
  shows = λ clean inside counts v shows counted fits.
      passed_on c.from_residual.result _ _ IsMemoryOrStore c.from_residual.ensures.1 (c.in_err-write_effect.ensures.shows clean inside counts v shows fits.0);
}

pub returns-in_err-set_revision : goal.returns-in_err-set_revision
returns-in_err-set_revision g c = record {
  same_reference = c.set_revision.ensures.same_reference ∙ c.write_effect.ensures.same_reference;
  goes =
      goes_fault_after (g.B.Batch.batch.state c.args.batch.now) (g.B.Batch.batch.state c.write_effect.new.batch) (g.B.Batch.batch.state c.set_revision.new.tx) _ _
      c.from_residual-in_err-set_revision.result c.from_residual-in_err-set_revision.ensures.1 c.in_ok-write_effect.ensures.goes c.in_err-set_revision.ensures.goes;
  shows = λ clean inside counts v shows counted fits.
      let early = earlier (g.B.Batch.batch.state c.write_effect.new.batch) _ c.set_revision.ensures.goes.survives clean in
      let first = c.in_ok-write_effect.ensures in
      passed_on c.from_residual-in_err-set_revision.result _ _ IsMemoryOrStore c.from_residual-in_err-set_revision.ensures.1
      (c.in_err-set_revision.ensures.shows clean (first.goes.going early inside).1 (recounted c.args.change.now.effect counts) _ (first.shows early inside counts v shows fits.0) tt);
}

pub returns-in-None : goal.returns-in-None
returns-in-None g c = record {
  same_reference = c.set_revision.ensures.same_reference ∙ c.write_effect.ensures.same_reference;
  goes =
      let old = g.B.Batch.batch.state c.args.batch.now in
      let mid = g.B.Batch.batch.state c.write_effect.new.batch in
      let new = g.B.Batch.batch.state c.set_revision.new.tx in
      goes_value old new _ _ (goes_then old mid new _ (Ok c.in_ok-set_revision.field-0) c.in_ok-write_effect.ensures.goes c.in_ok-set_revision.ensures.goes);
  shows = λ clean inside counts v shows counted fits.
      let early = earlier (g.B.Batch.batch.state c.write_effect.new.batch) _ c.set_revision.ensures.goes.survives clean in
      let first = c.in_ok-write_effect.ensures in
      let change = c.args.change.now in
      whole_with change None counts v (g.B.Batch.batch.state c.set_revision.new.tx).now c.in-None.is counted fits.0
      (c.in_ok-set_revision.ensures.shows clean (first.goes.going early inside).1 (recounted change.effect counts) _ (first.shows early inside counts v shows fits.0) tt);
}

pub returns-in-Some : goal.returns-in-Some
returns-in-Some g c = record {
  same_reference = c.keep_reply.ensures.same_reference ∙ (c.set_revision.ensures.same_reference ∙ c.write_effect.ensures.same_reference);
  goes =
      let mid = g.B.Batch.batch.state c.write_effect.new.batch in
      let new = g.B.Batch.batch.state c.keep_reply.new.tx in
      goes_then (g.B.Batch.batch.state c.args.batch.now) mid new _ c.keep_reply.result c.in_ok-write_effect.ensures.goes
      (goes_then mid (g.B.Batch.batch.state c.set_revision.new.tx) new _ c.keep_reply.result c.in_ok-set_revision.ensures.goes c.keep_reply.ensures.goes);
  shows = λ clean inside counts v shows counted fits.
      let late = earlier (g.B.Batch.batch.state c.set_revision.new.tx) _ c.keep_reply.ensures.goes.survives clean in
      let early = earlier (g.B.Batch.batch.state c.write_effect.new.batch) _ c.set_revision.ensures.goes.survives late in
      let first = c.in_ok-write_effect.ensures in
      let second = c.in_ok-set_revision.ensures in
      let change = c.args.change.now in
      let r = c.in-Some.receipt in
      let free : FitsReceipt (Some r) v = subst (λ r. FitsReceipt r v) c.in-Some.is fits.1 in
      let within = (first.goes.going early inside).1 in
      either_side _ c.keep_reply.result (whole_with change (Some r) counts v (g.B.Batch.batch.state c.keep_reply.new.tx).now c.in-Some.is counted fits.0)
      (c.keep_reply.ensures.shows clean (second.goes.going late within).1 _ _ (second.shows late within (recounted change.effect counts) _ (first.shows early inside counts v shows fits.0) tt) (receipt_still_fits change.revision change.effect (Some r) v free));
}
