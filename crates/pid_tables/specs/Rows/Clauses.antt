-- What clauses say of a connection or a transaction before and after a call. Each word is that of
-- Leaves, Causes or sqlite's State, said of the state that each of them shows.
use Rattle.std.specs.Prelude.{ℕ, Bool, List, Result}
use Rattle.sqlite.specs.Tree.{Trees}
use Rattle.sqlite.specs.Effect.{Database}
use Rattle.sqlite.specs.State.{State}
use Rattle.sqlite.specs.Order.{Row}
use Rattle.sqlite.specs.declared.error.Error.{Error}
use Rattle.sqlite.specs.State as states
use Rattle.pid_moderation.specs.Views.{Views}
use Rattle.pid_tables.specs.declared.rows.fault.TableFault.{TableFault}
use Rattle.pid_tables.specs.Rows.Causes as causes
use Rattle.pid_tables.specs.Rows.Leaves as leaves
use Rattle.pid_tables.specs.declared.rows.schema_version.Version.{Version}

module _ {S : Type 0} (state : S → State) where
  -- no fault has shut the connection
  abbrev pub is_open : S → Bool
  is_open conn = (state conn).is_open

  -- the database, as the connection sees it
  abbrev pub seen : S → Database
  seen conn = (state conn).now

  -- so far the disk has returned what was written
  abbrev pub HasCleanDisk : S → Type 0
  HasCleanDisk conn = states.HasCleanDisk (state conn)

  abbrev pub AtRest : S → Views → Type 0
  AtRest conn v = leaves.AtRest (state conn) v

  abbrev pub RestsIn : Version → S → Views → Type 0
  RestsIn version conn v = leaves.RestsIn version (state conn) v

  abbrev pub LeavesEither : S → Views → Views → Type 0
  LeavesEither conn first second = leaves.LeavesEither (state conn) first second

  -- a crash leaves what it left before, or trees that the call commits
  abbrev pub Survives : S → S → (Trees → Type 0) → Type 0
  Survives old new Commits = states.Survives (state old) (state new) Commits

  -- the statement was carried out, or refused; the rows are those of the query
  abbrev pub Executes : List ℕ → Row → S → S → Result ℕ Error → Type 0
  Executes sql params old new result = states.Executes sql params (state old)
      (state new) result

  abbrev pub IsCaused : S → S → TableFault → Type 0
  IsCaused old new fault = causes.IsCaused (state old) (state new) fault

  abbrev pub OnlyReads : S → S → Type 0
  OnlyReads old new = leaves.OnlyReads (state old) (state new)

  abbrev pub Tells : {X : Type 0} → S → S → Result X TableFault → (Views → X → Type 0)
      → Type 0
  Tells old new result Says = leaves.Tells (state old) (state new) result Says

  -- a read: it only reads, and this is so of its answer and the views that were at rest
  pub record Reads {X : Type 0} (old new : S) (result : Result X TableFault)
      (Says : Views → X → Type 0) : Type 0 where
    pub rests : OnlyReads old new
    pub told : Tells old new result Says
