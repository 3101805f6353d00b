use Rattle.std.proofs.Common.{ap, ◌∙◌}
use Rattle.std.specs.Option.{option_map}
use Rattle.pid_lookup.specs.Fields.{as_lookup as lookup_known}
use Rattle.pid_script.specs.Steps.Output.{out}
use Rattle.pid_script.proofs.Asked.{found_fault, goes_fit, memory_fault, looked_for, bad_lookup, no_lookup}
use Rattle.pid_script.proofs.SayLemmas.{says_fault}
use Rattle.pid_service_laws.specs.Calls.{nothing_sent}
use Rattle.pid_script.proofs.Calling.{go_one, go_still}
use Rattle.pid_script.proofs.answering.lookup.Goals as goal

pub returns-in-Ok-Some : goal.returns-in-Ok-Some
returns-in-Ok-Some g c = record {
  calls = go_one g.R.RegistryCalls.showing c.args.registry.now c.lookup-found.new.self nothing_sent c.lookup-found.ensures.calls;
  ends = λ honest h stands.
      looked_for g.R.RegistryCalls c.send_found.result c.lookup-found.result c.args.form.now (c.in-Ok-Some.flags, c.in-Ok-Some.args, c.in-Ok-Some.size) h c.args.registry.now c.lookup-found.new.self
      (out g.O.Output c.args.output.now c.args.held.now.items) (out g.O.Output c.send_found.new.output c.send_found.new.held.items)
      (c.in-Ok-Some.ensures ∙ ap (option_map lookup_known) c.in-Ok-Some.field-0-is) (c.lookup-found.ensures.told honest h) (c.lookup-found.ensures.kept.shown honest h) c.lookup-found.ensures.failed
      c.send_found.ensures.told c.send_found.ensures.goes_on (goes_fit c.send_found.result _ c.send_found.ensures.goes_on) c.lookup-found.ensures.calls stands;
  fault = found_fault c.send_found.result c.lookup-found.result (out g.O.Output c.args.output.now c.args.held.now.items) (out g.O.Output c.send_found.new.output c.send_found.new.held.items) c.send_found.ensures.told;
}

pub returns-in-Ok-None : goal.returns-in-Ok-None
returns-in-Ok-None g c = record {
  calls = go_still g.R.RegistryCalls.showing c.args.registry.now;
  ends = λ honest h stands.
      bad_lookup g.R.RegistryCalls c.send_bad_text.result c.args.form.now h c.args.registry.now
      (out g.O.Output c.args.output.now c.args.held.now.items) (out g.O.Output c.send_bad_text.new.output c.send_bad_text.new.held.items)
      (c.in-Ok-None.ensures ∙ ap (option_map lookup_known) c.in-Ok-None.field-0-is) c.send_bad_text.ensures;
  fault = says_fault c.send_bad_text.result _ (out g.O.Output c.args.output.now c.args.held.now.items) (out g.O.Output c.send_bad_text.new.output c.send_bad_text.new.held.items) c.send_bad_text.ensures;
}

pub returns-in-Err : goal.returns-in-Err
returns-in-Err g c = record {
  calls = go_still g.R.RegistryCalls.showing c.args.registry.now;
  ends = λ honest h stands.
      no_lookup g.R.RegistryCalls c.stop_for_memory.result c.args.form.now h c.args.registry.now
      (out g.O.Output c.args.output.now c.args.held.now.items) (out g.O.Output c.stop_for_memory.new.output c.stop_for_memory.new.held.items)
      c.stop_for_memory.ensures;
  fault = memory_fault c.stop_for_memory.result (out g.O.Output c.args.output.now c.args.held.now.items) (out g.O.Output c.stop_for_memory.new.output c.stop_for_memory.new.held.items) c.stop_for_memory.ensures;
}
