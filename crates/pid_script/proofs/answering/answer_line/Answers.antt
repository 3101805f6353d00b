use Rattle.std.proofs.Common.{Ok, Err, subst}
use Rattle.pid_script.specs.Steps.Output.{out, AnswersLine}
use Rattle.pid_script.proofs.OtherLines.{unclear, long, idle}
use Rattle.pid_script.proofs.Calling.{go_still}
use Rattle.pid_script.proofs.Asked.{long_fault}
use Rattle.pid_script.proofs.SayLemmas.{says_fault}
use Rattle.pid_script.proofs.answering.answer_line.Goals as goal

pub returns-in-Export : goal.returns-in-Export
returns-in-Export g c = record {
  calls = c.export.ensures.calls;
  ends = λ honest h stands. subst (λ a. AnswersLine g.R.RegistryCalls c.export.result a h c.args.registry.now (out g.O.Output c.args.output.now c.args.held.now.items) c.export.new.registry (out g.O.Output c.export.new.output c.export.new.held.items)) c.in-Export.ensures (c.export.ensures.ends honest h stands);
  fault = c.export.ensures.fault;
}

pub returns-in-Unclear : goal.returns-in-Unclear
returns-in-Unclear g c = record {
  calls = go_still g.R.RegistryCalls.showing c.args.registry.now;
  ends = λ honest h stands. subst (λ a. AnswersLine g.R.RegistryCalls c.send_bad_text.result a h c.args.registry.now (out g.O.Output c.args.output.now c.args.held.now.items) c.args.registry.now (out g.O.Output c.send_bad_text.new.output c.send_bad_text.new.held.items)) c.in-Unclear.ensures
      (unclear g.R.RegistryCalls c.send_bad_text.result h c.args.registry.now (out g.O.Output c.args.output.now c.args.held.now.items) (out g.O.Output c.send_bad_text.new.output c.send_bad_text.new.held.items) c.send_bad_text.ensures);
  fault = says_fault c.send_bad_text.result _ (out g.O.Output c.args.output.now c.args.held.now.items) (out g.O.Output c.send_bad_text.new.output c.send_bad_text.new.held.items) c.send_bad_text.ensures;
}

pub returns-in-TooLong : goal.returns-in-TooLong
returns-in-TooLong g c = record {
  calls = go_still g.R.RegistryCalls.showing c.args.registry.now;
  ends = λ honest h stands. subst (λ a. AnswersLine g.R.RegistryCalls (Err c.refuse_long.result) a h c.args.registry.now (out g.O.Output c.args.output.now c.args.held.now.items) c.args.registry.now (out g.O.Output c.refuse_long.new.output c.refuse_long.new.held.items)) c.in-TooLong.ensures
      (long g.R.RegistryCalls c.refuse_long.result h c.args.registry.now (out g.O.Output c.args.output.now c.args.held.now.items) (out g.O.Output c.refuse_long.new.output c.refuse_long.new.held.items) c.refuse_long.ensures);
  fault = long_fault c.refuse_long.result (out g.O.Output c.args.output.now c.args.held.now.items) (out g.O.Output c.refuse_long.new.output c.refuse_long.new.held.items) c.refuse_long.ensures;
}

pub returns-in-Nothing : goal.returns-in-Nothing
returns-in-Nothing g c = record {
  calls = go_still g.R.RegistryCalls.showing c.args.registry.now;
  ends = λ honest h stands. subst (λ a. AnswersLine g.R.RegistryCalls (Ok tt) a h c.args.registry.now (out g.O.Output c.args.output.now c.args.held.now.items) c.args.registry.now (out g.O.Output c.args.output.now c.args.held.now.items)) c.in-Nothing.ensures (idle g.R.RegistryCalls h c.args.registry.now (out g.O.Output c.args.output.now c.args.held.now.items));
  fault = λ is. absurd cc;
}

pub returns-in-Command : goal.returns-in-Command
returns-in-Command g c = record {
  calls = c.obey.ensures.calls;
  ends = λ honest h stands. subst (λ a. AnswersLine g.R.RegistryCalls c.obey.result a h c.args.registry.now (out g.O.Output c.args.output.now c.args.held.now.items) c.obey.new.registry (out g.O.Output c.obey.new.output c.obey.new.held.items)) c.in-Command.ensures (c.obey.ensures.ends honest h stands);
  fault = c.obey.ensures.fault;
}

pub returns-in-Read : goal.returns-in-Read
returns-in-Read g c = record {
  calls = c.read.ensures.calls;
  ends = λ honest h stands. subst (λ a. AnswersLine g.R.RegistryCalls c.read.result a h c.args.registry.now (out g.O.Output c.args.output.now c.args.held.now.items) c.read.new.registry (out g.O.Output c.read.new.output c.read.new.held.items)) c.in-Read.ensures (c.read.ensures.ends honest h stands);
  fault = c.read.ensures.fault;
}

pub returns-in-Lookup : goal.returns-in-Lookup
returns-in-Lookup g c = record {
  calls = c.lookup.ensures.calls;
  ends = λ honest h stands. subst (λ a. AnswersLine g.R.RegistryCalls c.lookup.result a h c.args.registry.now (out g.O.Output c.args.output.now c.args.held.now.items) c.lookup.new.registry (out g.O.Output c.lookup.new.output c.lookup.new.held.items)) c.in-Lookup.ensures (c.lookup.ensures.ends honest h stands);
  fault = c.lookup.ensures.fault;
}
