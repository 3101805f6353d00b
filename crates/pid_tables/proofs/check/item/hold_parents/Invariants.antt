use Rattle.pid_ident.specs.PathTexts.{IsPath}
use Rattle.pid_file.specs.Steps.Paths.{path_cmp}
use Rattle.pid_tables.specs.Check.Steps.PathSets.{HasParent}
use Rattle.pid_tables.proofs.OfCheck.KeyWalk.{HasWalked}
use Rattle.pid_tables.proofs.check.item.hold_parents.Given as goal

abbrev pub invariant-loop-path : goal.invariant-loop-path
invariant-loop-path l = HasWalked path_cmp (λ p. IsPath p → HasParent l.paths p) l.paths l.path-iterator
