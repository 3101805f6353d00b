use Rattle.pid_script.specs.Steps.Output.{out}
use Rattle.pid_script.proofs.SayLemmas.{said_out}
use Rattle.pid_script.proofs.output.say_all.Goals as goal

pub returns-in-Err : goal.returns-in-Err
returns-in-Err g c = (c.in-Err.ensures.0, c.in-Err.ensures.1.0, c.in-Err.ensures.1.1)

pub returns : goal.returns
returns g c = said_out c.flush.result (out g.O.Output c.args.output.now c.args.held.now.items) (out g.O.Output c.say.new.output c.say.new.held.items) (out g.O.Output c.flush.new.output c.flush.new.held.items) c.args.text.now c.in_default.ensures c.flush.ensures
