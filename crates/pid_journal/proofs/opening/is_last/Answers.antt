use Rattle.std.proofs.lemmas.List.{nil_from_length}
use Rattle.pid_journal.proofs.InTurn.{none_new, other_last}
use Rattle.pid_journal.proofs.opening.is_last.Goals as goal

pub returns-in-Some : goal.returns-in-Some
returns-in-Some c off rest is = other_last c.args.names.now _ rest c.in-Some.last.now c.args.name off c.in-Some.ensures.cases.0 is

pub returns-in-None : goal.returns-in-None
returns-in-None c off = none_new c.args.names.now c.args.name (nil_from_length c.args.names.now c.in-None.ensures.cases)
