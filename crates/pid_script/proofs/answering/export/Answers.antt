use Rattle.std.proofs.Common.{Err}
use Rattle.pid_script.specs.Steps.Output.{out}
use Rattle.pid_script.proofs.Asked.{answer_fault}
use Rattle.pid_script.proofs.Exported.{export_unheld, export_whole, export_broken, export_refused, write_known, refused_known, fault_same, not_write, of_fault, which_refusal}
use Rattle.pid_service_laws.specs.Calls.{nothing_sent}
use Rattle.pid_script.proofs.Calling.{go_one, go_still}
use Rattle.pid_script.proofs.answering.export.Goals as goal

pub returns-in-Err : goal.returns-in-Err
returns-in-Err g c = record {
  calls = go_still g.R.RegistryCalls.showing c.args.registry.now;
  ends = λ honest h stands.
      export_unheld g.R.RegistryCalls c.in-Err.end h c.args.registry.now (out g.O.Output c.args.output.now c.args.held.now.items) (out g.O.Output c.flush.new.output c.flush.new.held.items) c.in-Err.ensures;
  fault = λ is. c.in-Err.ensures.2;
}

pub returns-in-Ok : goal.returns-in-Ok
returns-in-Ok g c = record {
  calls = go_one g.R.RegistryCalls.showing c.args.registry.now c.export.new.self nothing_sent c.export.ensures.calls;
  ends = λ honest h stands.
      export_whole g.R.RegistryCalls _ h c.args.registry.now c.export.new.self (out g.O.Output c.args.output.now c.args.held.now.items) (g.O.Output.taken c.flush.new.output) (out g.O.Output c.export.new.out c.flush.new.held.items)
      c.in_default.ensures.0 c.in_default.ensures.1 (c.in-Ok.ensures.told honest h) (c.export.ensures.kept.shown honest h) (λ f. let bad = (c.in-Ok.ensures.failed f).0 in absurd cc) c.export.ensures.calls stands;
  fault = λ is. absurd cc;
}

pub returns-in-Err-Write : goal.returns-in-Err-Write
returns-in-Err-Write g c = record {
  calls = go_one g.R.RegistryCalls.showing c.args.registry.now c.export.new.self nothing_sent c.export.ensures.calls;
  ends = λ honest h stands.
      let is = c.in-Err-Write.field-0-is in
      export_broken g.R.RegistryCalls h c.args.registry.now c.export.new.self (out g.O.Output c.args.output.now c.args.held.now.items) (g.O.Output.taken c.flush.new.output) (out g.O.Output c.export.new.out c.flush.new.held.items)
      c.in_default.ensures.0 (c.in-Err-Write.ensures.fault _ (of_fault _ _ is)) (λ s. write_known _ _ _ _ _ is (c.in-Err-Write.ensures.told honest h s)) (c.export.ensures.kept.shown honest h) (λ f. not_write _ _ _ is (fault_same _ _ (c.in-Err-Write.ensures.failed f).0)) c.export.ensures.calls stands;
  fault = λ e. c.in-Err-Write.ensures.fault _ (of_fault _ _ c.in-Err-Write.field-0-is);
}

pub returns-in-Err-Refused : goal.returns-in-Err-Refused
returns-in-Err-Refused g c = record {
  calls = go_one g.R.RegistryCalls.showing c.args.registry.now c.export.new.self nothing_sent c.export.ensures.calls;
  ends = λ honest h stands.
      let is = c.in-Err-Refused.field-0-is in
      export_refused g.R.RegistryCalls c.send_answer.result c.in-Err-Refused.refusal h c.args.registry.now c.export.new.self (out g.O.Output c.args.output.now c.args.held.now.items) (g.O.Output.taken c.flush.new.output) (out g.O.Output c.export.new.out c.flush.new.held.items) (out g.O.Output c.send_answer.new.output c.send_answer.new.held.items)
      c.in_default.ensures.0 c.in_default.ensures.1 (λ s. refused_known _ _ _ _ _ is (c.in-Err-Refused.ensures.told honest h s))
      (λ f. let bad = c.in-Err-Refused.ensures.failed f in (which_refusal _ _ _ is (fault_same _ _ bad.0), bad.1, bad.2))
      (c.export.ensures.kept.shown honest h) stands
      c.send_answer.ensures.told c.send_answer.ensures.goes_on c.export.ensures.calls;
  fault = answer_fault c.send_answer.result (Err c.in-Err-Refused.refusal) (out g.O.Output c.export.new.out c.flush.new.held.items) (out g.O.Output c.send_answer.new.output c.send_answer.new.held.items) c.send_answer.ensures.told;
}
