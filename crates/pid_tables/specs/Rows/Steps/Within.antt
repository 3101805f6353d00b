-- What a transaction holds and shows.
use Rattle.std.specs.Prelude.{IsTrue}
use Rattle.sqlite.specs.State.{State, HasCleanDisk}
use Rattle.pid_moderation.specs.Views.{Views}
use Rattle.pid_tables.specs.Rows.Leaves.{LeavesViews}
use Rattle.pid_tables.specs.Rows.Shows.{Counts, Shows}
use Rattle.pid_tables.specs.Rows.Steps.Shows.{ShowsCounting}

-- whatever a transaction does, what was committed before it shows the views, and so does each thing
-- that a crash may leave
pub record KeepsCommitted (s : State) (v : Views) : Type 0 where
  pub committed : IsTrue s.is_open → Shows s.committed v
  pub leaves : LeavesViews s v

-- a transaction is under way that holds the first views and shows the second, if meta has these
-- counts
pub record Within (c : Counts) (s : State) (held now : Views) : Type 0 where
  pub inside : HasCleanDisk s → IsTrue s.in_transaction
  pub holds : KeepsCommitted s held
  pub shows : IsTrue s.is_open → ShowsCounting c s.now now

-- the same, once a statement was carried out: no fault has shut the connection
pub record Written (c : Counts) (s : State) (held now : Views) : Type 0 where
  pub within : Within c s held now
  pub opened : HasCleanDisk s → IsTrue s.is_open
