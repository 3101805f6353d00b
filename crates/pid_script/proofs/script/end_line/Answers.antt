use Rattle.std.proofs.Common.{◌≡◌, ℕ, List, [], ◌++◌, sym, ap, ◌∙◌, subst}
use Rattle.pid_reader.specs.Lines.{drop_cr}
use Rattle.pid_script.specs.Steps.Output.{out, AnswersLine}
use Rattle.pid_script.specs.ScriptLines.{ask_of}
use Rattle.pid_script.proofs.Asked.{always, unfit_fault}
use Rattle.pid_script.proofs.OtherLines.{unfit_here}
use Rattle.pid_script.proofs.Pieces.{nothing_kept, no_open_line}
use Rattle.pid_script.proofs.Calling.{go_still}
use Rattle.pid_script.proofs.script.end_line.Goals as goal

pub returns-in-Err-clause-answers : goal.returns-in-Err-clause-answers
returns-in-Err-clause-answers g c = record {
  calls = go_still g.R.RegistryCalls.showing c.args.registry.now;
  ends = λ honest h stands. unfit_here g.R.RegistryCalls c.in-Err.end _ h c.args.registry.now _ _ c.in-Err.ensures.unfit;
  fault = unfit_fault c.in-Err.end _ _ _ c.in-Err.ensures.unfit;
}

pub returns-then-is_empty-clause-answers : goal.returns-then-is_empty-clause-answers
returns-then-is_empty-clause-answers g c = record {
  calls = c.answer_line.ensures.calls;
  ends = λ honest h stands.
      let none : c.args.kept.now.items ≡ [] = nothing_kept c.args.kept.now c.if-is_empty.ensures in
      subst (λ l. AnswersLine g.R.RegistryCalls c.answer_line.result (ask_of l) h c.args.registry.now (out g.O.Output c.args.output.now c.args.held.now.items) c.answer_line.new.registry (out g.O.Output c.answer_line.new.output c.answer_line.new.held.items))
      (c.without_cr.ensures ∙ ap (λ (k : List ℕ). drop_cr (k ++ c.args.front.now)) (sym none)) (c.answer_line.ensures.ends honest h stands);
  fault = c.answer_line.ensures.fault;
}

pub returns-then-is_empty-clause-empty : goal.returns-then-is_empty-clause-empty
returns-then-is_empty-clause-empty g c = always c.answer_line.result _ (nothing_kept c.args.kept.now c.if-is_empty.ensures)

pub returns-then-is_empty-clause-let_go : goal.returns-then-is_empty-clause-let_go
returns-then-is_empty-clause-let_go g c = always c.answer_line.result _ (λ some. no_open_line c.args.kept.now c.if-is_empty.ensures some)

pub returns-clause-answers : goal.returns-clause-answers
returns-clause-answers g c = record {
  calls = c.answer_line-answered.ensures.calls;
  ends = λ honest h stands.
      let new = out g.O.Output c.answer_line-answered.new.output c.answer_line-answered.new.held.items in
      subst (λ l. AnswersLine g.R.RegistryCalls c.answer_line-answered.result (ask_of l) h c.args.registry.now (out g.O.Output c.args.output.now c.args.held.now.items) c.answer_line-answered.new.registry new)
      (c.without_cr-2.ensures ∙ ap drop_cr (c.deref.ensures.value ∙ c.in_default.ensures.kept))
      (subst (λ o. AnswersLine g.R.RegistryCalls c.answer_line-answered.result (ask_of c.without_cr-2.result.now) h c.args.registry.now (out g.O.Output o c.args.held.now.items) c.answer_line-answered.new.registry new) c.in_default.ensures.silent
      (subst (λ l. AnswersLine g.R.RegistryCalls c.answer_line-answered.result (ask_of c.without_cr-2.result.now) h c.args.registry.now (out g.O.Output c.keep.new.output l) c.answer_line-answered.new.registry new) c.in_default.ensures.still
      (c.answer_line-answered.ensures.ends honest h stands)));
  fault = c.answer_line-answered.ensures.fault;
}

pub returns-clause-empty : goal.returns-clause-empty
returns-clause-empty g c = always c.answer_line-answered.result _ c.new.ensures.items

pub returns-clause-let_go : goal.returns-clause-let_go
returns-clause-let_go g c = always c.answer_line-answered.result _ (λ some. c.new.ensures.capacity)
