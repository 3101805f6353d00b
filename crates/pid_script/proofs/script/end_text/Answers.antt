use Rattle.std.proofs.Common.{Ok, Err, subst}
use Rattle.pid_script.specs.Steps.Output.{out, AnswersLine}
use Rattle.pid_script.specs.ScriptLines.{ask_of}
use Rattle.pid_script.proofs.Pieces.{at_end, at_last, stop_last, end_on, nothing_left, something_left}
use Rattle.pid_script.proofs.Calling.{go_still}
use Rattle.pid_script.proofs.SayLemmas.{sends_fault}
use Rattle.pid_script.proofs.script.end_text.Goals as goal

pub returns-then-is_empty : goal.returns-then-is_empty
returns-then-is_empty g c = record {
  calls = go_still g.R.RegistryCalls.showing c.args.registry.now;
  ends = λ honest h start first text stands a.
      let old = out g.O.Output c.args.output.now c.args.held.now.items in
      end_on g.R.RegistryCalls c.flush.result h start first c.args.registry.now old (out g.O.Output c.flush.new.output c.flush.new.held.items) text
      (at_end g.R.RegistryCalls h start first c.args.registry.now old c.args.kept.now text a (nothing_left c.args.kept.now c.if-is_empty.ensures)) c.flush.ensures;
  fault = sends_fault c.flush.result _ (out g.O.Output c.args.output.now c.args.held.now.items) (out g.O.Output c.flush.new.output c.flush.new.held.items) c.flush.ensures;
}

pub returns-in-Err : goal.returns-in-Err
returns-in-Err g c = record {
  calls = c.answer_line.ensures.calls;
  ends = λ honest h start first text stands a.
      let old = out g.O.Output c.args.output.now c.args.held.now.items in
      let new = out g.O.Output c.answer_line.new.output c.answer_line.new.held.items in
      stop_last g.R.RegistryCalls (Err c.in-Err.end) h start first c.args.registry.now c.answer_line.new.registry old new c.args.kept.now text a
      (something_left c.args.kept.now c.if-is_empty.ensures) stands
      (λ k shown. subst (λ l. AnswersLine g.R.RegistryCalls (Err c.in-Err.end) (ask_of l) k c.args.registry.now old c.answer_line.new.registry new) c.without_cr.ensures (c.in-Err.ensures.ends honest k shown));
  fault = c.in-Err.ensures.fault;
}

pub returns : goal.returns
returns g c = record {
  calls = c.answer_line.ensures.calls;
  ends = λ honest h start first text stands a.
      let old = out g.O.Output c.args.output.now c.args.held.now.items in
      let mid = out g.O.Output c.answer_line.new.output c.answer_line.new.held.items in
      end_on g.R.RegistryCalls c.flush-2.result h start first c.answer_line.new.registry mid (out g.O.Output c.flush-2.new.output c.flush-2.new.held.items) text
      (at_last g.R.RegistryCalls (Ok tt) h start first c.args.registry.now c.answer_line.new.registry old mid c.args.kept.now text a
      (something_left c.args.kept.now c.if-is_empty.ensures) stands
      (λ k shown. subst (λ l. AnswersLine g.R.RegistryCalls (Ok tt) (ask_of l) k c.args.registry.now old c.answer_line.new.registry mid) c.without_cr.ensures (c.in_default.ensures.ends honest k shown)))
      c.flush-2.ensures;
  fault = sends_fault c.flush-2.result _ (out g.O.Output c.answer_line.new.output c.answer_line.new.held.items) (out g.O.Output c.flush-2.new.output c.flush-2.new.held.items) c.flush-2.ensures;
}
