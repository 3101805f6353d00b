-- A failed write keeps the bytes taken.
use Rattle.std.specs.Io.KnownBytes.{Keeps}
use Rattle.pid_file.proofs.plain.write_once.Given as goal

abbrev pub invariant-loop : goal.invariant-loop
invariant-loop g l = Keeps (g.W.Write.contents l.initial.writer) (g.W.Write.contents l.writer)
