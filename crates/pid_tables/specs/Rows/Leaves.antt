-- What a connection is left as by a call, and what a crash may then leave. All of it holds while
-- the disk returns what was written.
--
-- The states, if the tables showed v at the start, and w once the change is made:
--
--     at rest          begun               written             committed
--     AtRest v ──────▶ Within c v v ─────▶ Written c v w ────▶ AtRest w
--        ▲     begin       │       writes      │       commit
--        │                 │ a call fails      │ the commit fails
--        │ roll_back       ▼                   ▼
--        └────────── KeepsCommitted v      LeavesEither v w
--                        failed
--
-- A crash at rest leaves v (at the end w), so does one in a transaction (each of the three is a
-- `KeepsCommitted v`), and one after a failed commit the one or the other. `Written` says more than
-- `Within`: the connection is open. A read goes from at rest to at rest (`OnlyReads`), a call in a
-- transaction stays in it (`GoesOn`) and leads on to the next views (`LeadsTo`). A connection that
-- a fault has shut shows nothing, but what a crash leaves is as good as it was. `GoesOn` and
-- `LeadsTo` are in Steps/Turns, `KeepsCommitted`, `Within` and `Written` in Steps/Within.
--
-- All of it is of schema 2. `RestsIn` is at rest in one schema or the other.
use Rattle.std.specs.Prelude.{◌≡◌, ◌⊎◌, false, Result, MatchResult, IsTrue}
use Rattle.sqlite.specs.Tree.{Trees}
use Rattle.sqlite.specs.State.{State, HasCleanDisk, Survives}
use Rattle.sqlite.specs.Effect.{Database}
use Rattle.sqlite.specs.Schema.{Schema}
use Rattle.pid_moderation.specs.Views.{Views}
use Rattle.pid_tables.specs.declared.rows.fault.TableFault.{TableFault}
use Rattle.pid_tables.specs.Rows.Causes.{IsCaused, IsReadable}
use Rattle.pid_tables.specs.declared.rows.schema_version.Version.{Version}
use Rattle.pid_tables.specs.Rows.Schema.{schema_of, pid_schema}
use Rattle.pid_tables.specs.Rows.Shows.{ShowsIn, Shows}

-- trees as an open finds them, with the schema that they list
abbrev pub found_in : Schema → Trees → Database
found_in schema db = record { schema = schema; trees = db }

-- if they list schema 2
abbrev pub as_found : Trees → Database
as_found = found_in pid_schema

-- everything that a crash may leave shows the views
pub record LeavesViews (s : State) (v : Views) : Type 0 where
  pub each : HasCleanDisk s → (db : Trees) → s.may_leave db → Shows (as_found db) v

-- everything that a crash may leave shows the one or the other
pub record LeavesEither (s : State) (first second : Views) : Type 0 where
  pub each : HasCleanDisk s → (db : Trees) → s.may_leave db
      → Shows (as_found db) first ⊎ Shows (as_found db) second

-- trees that show the views in the one schema or the other
abbrev pub IsShown : Trees → Views → Type 0
IsShown db v = (version : Version) × ShowsIn version (found_in (schema_of version) db) v

-- everything that a crash may leave shows the views, in the one schema or the other
pub record LeavesShown (s : State) (v : Views) : Type 0 where
  pub each : HasCleanDisk s → (db : Trees) → s.may_leave db → IsShown db v

-- outside a transaction, while it is open, the connection shows the views in this schema; what a
-- crash may leave shows them in one or the other
pub record RestsIn (version : Version) (s : State) (v : Views) : Type 0 where
  pub settled : s.in_transaction ≡ false
  pub same : IsTrue s.is_open → s.now ≡ s.committed
  pub shows : IsTrue s.is_open → ShowsIn version s.now v
  pub leaves : LeavesShown s v

-- outside a transaction, while it is open, the connection shows the views, and so does each thing
-- that a crash may leave
pub record AtRest (s : State) (v : Views) : Type 0 where
  pub settled : s.in_transaction ≡ false
  pub same : IsTrue s.is_open → s.now ≡ s.committed
  pub shows : IsTrue s.is_open → Shows s.now v
  pub leaves : LeavesViews s v

-- while it is open, the connection sees this database, and it is committed
pub record RestsOn (s : State) (d : Database) : Type 0 where
  pub sees : IsTrue s.is_open → s.now ≡ d
  pub committed : IsTrue s.is_open → s.committed ≡ d

-- A read opens no connection and forgets no fault. The database stays the same, whatever it is:
-- what was at rest stays at rest.
pub record OnlyReads (old new : State) : Type 0 where
  pub survives : Survives old new (λ _. ⊥)
  pub settled : new.in_transaction ≡ false
  pub clean : HasCleanDisk new → HasCleanDisk old
  pub was_open : IsTrue new.is_open → IsTrue old.is_open
  pub same : (d : Database) → RestsOn old d → RestsOn new d
  pub kept : (v : Views) → AtRest old v → AtRest new v

-- and speaks of the views that were at rest; a fault has a cause if what they hold can be read
abbrev pub Tells : {X : Type 0} → State → State → Result X TableFault → (Views → X → Type 0)
    → Type 0
Tells old new result Says = HasCleanDisk new → (v : Views) → AtRest old v
    → MatchResult result (Says v) (λ fault. IsReadable v → IsCaused old new fault)
