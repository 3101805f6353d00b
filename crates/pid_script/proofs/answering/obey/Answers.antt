use Rattle.std.proofs.Common.{Err, ap}
use Rattle.std.specs.Prelude.{is_ok}
use Rattle.pid_script.specs.Asking.{command_in_form}
use Rattle.pid_script.specs.Replies.{those_sent, outcome_of}
use Rattle.pid_script.specs.Steps.Output.{out}
use Rattle.pid_script.specs.ScriptLines as lines
use Rattle.pid_script.proofs.Obeyed.{obeyed}
use Rattle.pid_script.proofs.Asked.{answer_fault, form_refused, goes_fit}
use Rattle.pid_script.proofs.Causes.{command_no_stop}
use Rattle.pid_script.proofs.Calling.{go_one, go_still}
use Rattle.pid_script.proofs.answering.obey.Goals as goal

pub returns-in-Ok : goal.returns-in-Ok
returns-in-Ok g c = record {
  calls = go_one g.R.RegistryCalls.showing c.args.registry.now c.obey-answer.new.self _ c.obey-answer.ensures.calls;
  ends = λ honest h stands.
      obeyed g.R.RegistryCalls c.send_answer.result c.obey-answer.result c.in-Ok.command c.args.verb c.args.account.now c.args.form.now h c.args.registry.now c.obey-answer.new.self
      (out g.O.Output c.args.output.now c.args.held.now.items) (out g.O.Output c.send_answer.new.output c.send_answer.new.held.items)
      c.in-Ok.ensures.ok (c.obey-answer.ensures.obeys honest h) c.obey-answer.ensures.failed c.send_answer.ensures.told c.send_answer.ensures.goes_on c.send_answer.ensures.empty (goes_fit c.send_answer.result _ c.send_answer.ensures.goes_on) (g.R.RegistryCalls.is_live c.obey-answer.new.self, c.obey-answer.ensures.calls) stands;
  fault = answer_fault c.send_answer.result c.obey-answer.result (out g.O.Output c.args.output.now c.args.held.now.items) (out g.O.Output c.send_answer.new.output c.send_answer.new.held.items) c.send_answer.ensures.told;
}

pub returns-in-Err : goal.returns-in-Err
returns-in-Err g c = record {
  calls = go_still g.R.RegistryCalls.showing c.args.registry.now;
  ends = λ honest h stands.
      let asked = command_in_form c.args.verb c.args.account.now c.args.form.now in
      form_refused g.R.RegistryCalls c.send_answer-in-Err.result (lines.AsksCommand c.args.verb c.args.account.now c.args.form.now) asked h c.args.registry.now
      (out g.O.Output c.args.output.now c.args.held.now.items) (out g.O.Output c.send_answer-in-Err.new.output c.send_answer-in-Err.new.held.items) c.in-Err.refusal
      c.in-Err.ensures.err (command_no_stop c.args.verb c.args.account.now c.args.form.now) (λ is. ap (λ a. outcome_of a h) is) (λ is. ap those_sent is) (λ is. ap is_ok is) (λ e. cc)
      c.send_answer-in-Err.ensures.told c.send_answer-in-Err.ensures.goes_on (goes_fit c.send_answer-in-Err.result _ c.send_answer-in-Err.ensures.goes_on);
  fault = answer_fault c.send_answer-in-Err.result (Err c.in-Err.refusal) (out g.O.Output c.args.output.now c.args.held.now.items) (out g.O.Output c.send_answer-in-Err.new.output c.send_answer-in-Err.new.held.items) c.send_answer-in-Err.ensures.told;
}
