use Rattle.std.proofs.Common.{[], refl, subst}
use Rattle.std.specs.Io.KnownBytes.{Appends}
use Rattle.pid_script.specs.Steps.Output.{out}
use Rattle.pid_script.proofs.SayLemmas.{held, sent_after, unsent_front}
use Rattle.pid_script.proofs.output.say.Goals as goal

pub returns-then-holds : goal.returns-then-holds
returns-then-holds g c = held (out g.O.Output c.args.output.now c.args.held.now.items) (out g.O.Output c.args.output.now c.holds.new.held.items) c.args.text.now refl (c.holds.ensures.held c.if-holds.true) c.holds.ensures.room

pub returns-in-Err : goal.returns-in-Err
returns-in-Err g c = (
  c.in-Err.ensures.0,
  (
    unsent_front (g.O.Output.taken c.args.output.now) (g.O.Output.taken c.flush.new.output) c.args.held.now.items c.holds.new.held.items c.args.text.now (c.holds.ensures.same c.if-holds.false) c.in-Err.ensures.1,
    c.in-Err.ensures.2,
  ),
)

pub returns : goal.returns
returns g c =
    sent_after c.send.result (out g.O.Output c.args.output.now c.args.held.now.items) (out g.O.Output c.flush.new.output []) (out g.O.Output c.send.new.output c.flush.new.held.items) (out g.O.Output c.send.new.output []) c.args.text.now
    (subst (Appends (g.O.Output.taken c.args.output.now) (g.O.Output.taken c.flush.new.output)) (c.holds.ensures.same c.if-holds.false) c.in_default.ensures.0) c.in_default.ensures.1 refl refl c.send.ensures
