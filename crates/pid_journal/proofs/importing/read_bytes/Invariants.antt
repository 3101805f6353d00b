-- What was read is kept, unless memory ran out.
use Rattle.std.proofs.Common.{◌≡◌, ℕ, List}
use Rattle.std.specs.Prelude.{IfSome}
use Rattle.pid_file.proofs.FrontEnds.{HasRead}
use Rattle.pid_moderation.specs.CheckTables.{most_file_bytes}
use Rattle.pid_journal.proofs.importing.read_bytes.Given as goal

abbrev pub invariant-loop-kept : goal.invariant-loop-kept
invariant-loop-kept g l = (front : List ℕ) × HasRead (g.I.Input.to_come l.fn.input) (g.I.Input.to_come l.input) most_file_bytes l.room front × g.I.Input.goes l.fn.input l.input × IfSome l.kept (λ bytes. bytes.items ≡ front)

abbrev pub decreases-loop-kept : goal.decreases-loop-kept
decreases-loop-kept g l = l.room
