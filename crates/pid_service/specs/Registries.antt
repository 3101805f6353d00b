-- What a registry holds, and what its connection says of it; `database` is `C.Database`, which says
-- what the connection shows.
use Rattle.std.specs.Prelude.{◌≡◌, Bool}
use Rattle.pid_tables.specs.Rows.Clauses as clauses
use Rattle.pid_tables.specs.declared.database.Database.{Ghosts}
use Rattle.pid_service.specs.declared.registry.Registry.{Registry}

-- neither memory nor the store has failed it while it wrote
abbrev pub is_live : {S : Type 0} {database : Ghosts S} → Registry S database → Bool
is_live r = r.live

-- the connection whose tables it keeps
abbrev pub connection : {S : Type 0} {database : Ghosts S} → Registry S database → S
connection r = r.tables.conn

module _ {S : Type 0} (database : Ghosts S) where
  -- so far the disk has returned what was written
  abbrev pub HasCleanDisk : Registry S database → Type 0
  HasCleanDisk r = clauses.HasCleanDisk database.state (connection r)

  -- what was at rest stays as it was
  abbrev pub OnlyReads : Registry S database → Registry S database → Type 0
  OnlyReads old new = clauses.OnlyReads database.state (connection old) (connection new)

  -- no limit of steps was set, which is a cause of faults: it is as it was
  abbrev pub KeepsLimit : Registry S database → Registry S database → Type 0
  KeepsLimit old new = (database.state (connection new)).step_limit
      ≡ (database.state (connection old)).step_limit
