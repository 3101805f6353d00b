-- So much was read, and its whole lines were answered; at each read those before it were. No read
-- failed, each found something to come and was noted, and the buffer is whole.
use Rattle.std.proofs.Common.{◌≡◌, ◌<◌, None, length}
use Rattle.std.specs.List.{AllByRecursion}
use Rattle.pid_script.specs.Scripts.{BUFFER_ROOM, HasMore, Notes}
use Rattle.pid_script.specs.Steps.Output.{out}
use Rattle.pid_script.proofs.CatchingUp.{AreAnswered}
use Rattle.pid_script.proofs.ReadLemmas.{HasRead}
use Rattle.pid_script.proofs.script.run_script.Given as goal

abbrev pub invariant-loop-turn : goal.invariant-loop-turn
invariant-loop-turn g l =
    HasRead g.R.RegistryCalls l.fn.registry l.registry (g.O.Output.taken l.fn.output) (out g.O.Output l.output l.held.items) (g.I.Incoming.to_come l.fn.input) (g.I.Incoming.to_come l.input) l.kept.items (g.I.Incoming.reads l.fn.input) (g.I.Incoming.reads l.input) l._turn
    × (g.I.Incoming.goes l.fn.input l.input
    × (AreAnswered g.R.RegistryCalls l.fn.registry l.registry (g.O.Output.taken l.fn.output) (g.O.Output.taken l.output) (g.I.Incoming.to_come l.fn.input) (g.I.Incoming.moments l.fn.input) (g.I.Incoming.moments l.input)
    × (((0 < l._turn → g.I.Incoming.read_fault l.input ≡ None) × Notes l._turn (AllByRecursion HasMore) (g.I.Incoming.moments l.fn.input) (g.I.Incoming.moments l.input))
    × (length l.buffer ≡ BUFFER_ROOM))))
