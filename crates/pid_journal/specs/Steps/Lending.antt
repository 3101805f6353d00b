-- A pair whose registry is lent without the journal. A choice of this project.
use Rattle.std.specs.Borrow.{Fml, Lends, MutBor, RattleType}
use Rattle.pid_journal.specs.contracts.journaled.Journaled.{the_row}
use Rattle.pid_journal.specs.declared.journaled.Journaled.{Journaled}

module _ (R J : RattleType) where
  -- once the loan has ended, the registry is what the reference led to last
  abbrev pub LendsRegistry : MutBor (Journaled R.Denot J.Denot) → MutBor R.Denot → Fml
  LendsRegistry pair lent = Lends (the_row R J) R pair lent (λ r. record pair.now { registry = r })
