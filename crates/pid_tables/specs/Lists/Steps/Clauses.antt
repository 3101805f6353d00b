-- What clauses say of a connection before and after a part of a list is read.
use Rattle.std.specs.Prelude.{Result, MatchResult}
use Rattle.sqlite.specs.State.{State}
use Rattle.pid_moderation.specs.Views.{Views}
use Rattle.pid_tables.specs.declared.rows.fault.TableFault.{TableFault}
use Rattle.pid_tables.specs.Rows.Causes.{IsReadable}
use Rattle.pid_tables.specs.Rows.Clauses.{AtRest, HasCleanDisk, IsCaused, OnlyReads}

module _ {S : Type 0} (state : S → State) where
  -- A read of what is so of an element of the views that were at rest: a value says this of the
  -- element, and a fault has a cause if what the views hold can be read.
  pub record ReadsOf {X E : Type 0} (old new : S) (result : Result X TableFault)
      (IsSo : Views → E → Type 0) (Says : E → X → Type 0) : Type 0 where
    pub rests : OnlyReads state old new
    pub told : HasCleanDisk state new → (v : Views) (e : E) → AtRest state old v → IsSo v e
        → MatchResult result (Says e) (λ fault. IsReadable v → IsCaused state old new fault)
