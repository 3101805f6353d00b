use Rattle.std.proofs.Common.{subst}
use Rattle.std.specs.Io.KnownBytes.{Appends}
use Rattle.pid_ident.specs.Sending.{SendsFront}
use Rattle.pid_script.proofs.output.flush.Goals as goal

pub returns-in-Err : goal.returns-in-Err
returns-in-Err g c = (c.in-Err.ensures.0, subst (SendsFront (g.O.Output.taken c.args.output.now) (g.O.Output.taken c.send.new.output)) c.as_slice.ensures.value c.in-Err.ensures.1, c.in-Err.ensures.2)

pub returns : goal.returns
returns g c = (subst (Appends (g.O.Output.taken c.args.output.now) (g.O.Output.taken c.send.new.output)) c.as_slice.ensures.value c.in_default.ensures.0, c.clear.ensures.items)
