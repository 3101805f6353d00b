use Rattle.std.proofs.Common.{Err, ap, refl}
use Rattle.std.specs.Prelude.{is_ok}
use Rattle.pid_script.specs.Asking.{path_asked}
use Rattle.pid_script.specs.Replies.{name_reply}
use Rattle.pid_script.specs.Steps.Output.{out}
use Rattle.pid_script.specs.ScriptLines as lines
use Rattle.pid_script.proofs.Asked.{answer_fault, form_refused, goes_fit, name_fault, named}
use Rattle.pid_script.proofs.Causes.{path_no_stop}
use Rattle.pid_service_laws.specs.Calls.{nothing_sent}
use Rattle.pid_script.proofs.Calling.{go_one, go_still}
use Rattle.pid_script.proofs.answering.read.Goals as goal

pub returns-in-Err : goal.returns-in-Err
returns-in-Err g c = record {
  calls = go_still g.R.RegistryCalls.showing c.args.registry.now;
  ends = λ honest h stands.
      form_refused g.R.RegistryCalls c.send_answer.result (lines.AsksName c.args.form.now) (path_asked c.args.form.now) h c.args.registry.now
      (out g.O.Output c.args.output.now c.args.held.now.items) (out g.O.Output c.send_answer.new.output c.send_answer.new.held.items) c.in-Err.refusal
      c.in-Err.ensures.err (path_no_stop c.args.form.now) (λ is. ap (λ a. name_reply a h) is) (λ is. refl) (λ is. ap is_ok is) (λ e. cc)
      c.send_answer.ensures.told c.send_answer.ensures.goes_on (goes_fit c.send_answer.result _ c.send_answer.ensures.goes_on);
  fault = answer_fault c.send_answer.result (Err c.in-Err.refusal) (out g.O.Output c.args.output.now c.args.held.now.items) (out g.O.Output c.send_answer.new.output c.send_answer.new.held.items) c.send_answer.ensures.told;
}

pub returns-in-Ok : goal.returns-in-Ok
returns-in-Ok g c = record {
  calls = go_one g.R.RegistryCalls.showing c.args.registry.now c.read-name.new.self nothing_sent c.read-name.ensures.calls;
  ends = λ honest h stands.
      named g.R.RegistryCalls c.send_name.result c.read-name.result c.args.form.now c.in-Ok.path h c.args.registry.now c.read-name.new.self
      (out g.O.Output c.args.output.now c.args.held.now.items) (out g.O.Output c.send_name.new.output c.send_name.new.held.items)
      c.in-Ok.ensures.ok (λ s. (c.read-name.ensures.told honest h s).0) (λ s. (c.read-name.ensures.told honest h s).1) c.read-name.ensures.failed
      c.send_name.ensures.told c.send_name.ensures.goes_on (goes_fit c.send_name.result _ c.send_name.ensures.goes_on) c.read-name.ensures.calls stands;
  fault = name_fault c.send_name.result c.read-name.result (out g.O.Output c.args.output.now c.args.held.now.items) (out g.O.Output c.send_name.new.output c.send_name.new.held.items) c.send_name.ensures.told;
}
