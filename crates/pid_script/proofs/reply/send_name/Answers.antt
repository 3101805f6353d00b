use Rattle.std.proofs.Common.{List, ℕ, ◌++◌, ap, sym, ◌∙◌}
use Rattle.std.specs.Prelude.{codes}
use Rattle.pid_script.specs.Replies.{name_line}
use Rattle.pid_script.specs.Steps.Output.{out}
use Rattle.pid_script.proofs.Asked.{name_goes, name_said}
use Rattle.pid_script.proofs.reply.send_name.Goals as goal

pub returns-in-Ok-Some-clause-told : goal.returns-in-Ok-Some-clause-told
returns-in-Ok-Some-clause-told g c = name_said c.say_line.result c.args.name.now c.in-Ok-Some.field-0 _ (out g.O.Output c.args.output.now c.args.held.now.items) (out g.O.Output c.say_line.new.output c.say_line.new.held.items) c.in-Ok-Some.is (ap name_line (rw c.in-Ok-Some.is at c.in-Ok-Some.field-0-is) ∙ ap (λ (l : List ℕ). codes "name " ++ (l ++ codes "\n")) (sym (c.as_bytes.ensures.value ∙ c.as_str.ensures.text))) c.say_line.ensures

pub returns-in-Ok-None-clause-told : goal.returns-in-Ok-None-clause-told
returns-in-Ok-None-clause-told g c = name_said c.say.result c.args.name.now c.in-Ok-None.field-0 _ (out g.O.Output c.args.output.now c.args.held.now.items) (out g.O.Output c.say.new.output c.say.new.held.items) c.in-Ok-None.is (ap name_line (rw c.in-Ok-None.is at c.in-Ok-None.field-0-is) ∙ sym (c.as_bytes-in-Ok-None.ensures.value ∙ c.line.ensures)) c.say.ensures

pub returns-in-Ok-Some-clause-goes_on : goal.returns-in-Ok-Some-clause-goes_on
returns-in-Ok-Some-clause-goes_on g c = name_goes c.say_line.result c.args.name.now c.in-Ok-Some.field-0 _ _ _ c.in-Ok-Some.is c.say_line.ensures

pub returns-in-Ok-None-clause-goes_on : goal.returns-in-Ok-None-clause-goes_on
returns-in-Ok-None-clause-goes_on g c = name_goes c.say.result c.args.name.now c.in-Ok-None.field-0 _ _ _ c.in-Ok-None.is c.say.ensures
