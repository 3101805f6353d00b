-- What the next run finds in the files of an earlier one.
use Rattle.std.specs.Prelude.{◌⊎◌, true, false, List, IsTrue}
use Rattle.std.proofs.Common.{inl, inr, sym, ap, subst}
use Rattle.std.proofs.Math.Logic.{∥∥₁_map}
use Rattle.sqlite.proofs.Theorems.{next_run}
use Rattle.sqlite.specs.Effect.{Database}
use Rattle.sqlite.specs.Files.{file_state}
use Rattle.sqlite.specs.Held.{AreDatabases, Held}
use Rattle.sqlite.specs.Schema.{Schema}
use Rattle.sqlite.specs.State as states
use Rattle.sqlite.specs.Tree.{Trees}
use Rattle.sqlite_catalog.specs.Listing.{IsSound}
use Rattle.sqlite_disk.specs.declared.Disk as disk
use Rattle.sqlite_store.specs.FileStore.{recovers, view}
use Rattle.sqlite_store.specs.declared.store.FileStore.{FileStore}
use Rattle.pid_tables.specs.declared.database.Database.{Ghosts}
use Rattle.pid_service.specs.declared.registry.Registry.{Registry}
use Rattle.pid_moderation.specs.History.{Asked, History}
use Rattle.pid_moderation.specs.Views.{Views, views_of}
use Rattle.pid_service_laws.specs.Calls.{Call, StopsAt, session_of}
use Rattle.pid_service_laws.specs.Sessions.{InDoubt, NoDoubt, after_session}
use Rattle.pid_service_laws.specs.Registries.{EndsSession}
use Rattle.pid_tables.specs.Clauses.{ShowsOrBlank}
use Rattle.pid_tables.specs.Rows.Clauses as clauses
use Rattle.pid_tables.specs.Rows.Leaves.{as_found}
use Rattle.pid_tables.specs.Rows.Schema.{no_schema, pid_schema, schema_of}
use Rattle.pid_tables.specs.Rows.Shows.{Shows as ShowsViews}
use Rattle.pid_service.specs.Histories.{FailsBetween, Shows}
use Rattle.pid_service.specs.Sessions.{IsAfterStop, showing}
use Rattle.pid_service.specs.Registries.{HasCleanDisk, connection}
use Rattle.sqlite.specs.Start.{FindsIn}
use Rattle.sqlite_wal.specs.Recovery.{Image}
use Rattle.pid_cli_jobs.specs.Files.{Closed, IsLeftIn, IsNextRun, Stopped, Unclosed}

-- trees that show the one or the other are a database
pub either_sound : (db : Trees) (first second : Views)
    → ShowsViews (as_found db) first ⊎ ShowsViews (as_found db) second
    → (schema : Schema) × IsSound schema db
either_sound db first second (inl shows) = (pid_schema, shows.sound)
either_sound db first second (inr shows) = (pid_schema, shows.sound)

module _ {C : Type 0} (database : Ghosts C) where
  -- what a stop may leave of a connection is a database
  pub rest_sound : (conn : C) (v : Views) → clauses.AtRest database.state conn v
      → clauses.HasCleanDisk database.state conn → AreDatabases (database.state conn).may_leave
  rest_sound conn v rest clean db left = (pid_schema, (rest.leaves.each clean db left).sound)

  pub between_sound : (conn : C) (v w : Views) → clauses.LeavesEither database.state conn v w
      → clauses.HasCleanDisk database.state conn → AreDatabases (database.state conn).may_leave
  between_sound conn v w either clean db left = either_sound db v w (either.each clean db left)

  -- of a connection whose tables show a history in one schema or the other, or none
  pub tables_sound : (conn : C) (h : History) → ShowsOrBlank database.state conn h
      → clauses.HasCleanDisk database.state conn → AreDatabases (database.state conn).may_leave
  tables_sound conn h (inl rest) clean db left = rest_sound conn (views_of h) rest clean db left
  tables_sound conn h (inr (inl older)) clean db left =
      let shown = older.leaves.each clean db left in (schema_of shown.0, shown.1.sound)
  tables_sound conn h (inr (inr bare)) clean db left = elim (bare.0.leaves.each clean db left) [
    | inl none ↦ (no_schema, none)
    | inr made ↦ (pid_schema, made.sound)
  ]

  -- as a registry ends
  pub ends_sound : (ended : Registry C database) (calls : List Call) (h : History)
      (before after : Asked → History)
      → Shows database ended h ⊎ ((c : Asked) × StopsAt c calls
      × FailsBetween database ended (before c) (after c))
      → HasCleanDisk database ended → AreDatabases (database.state (connection ended)).may_leave
  ends_sound ended calls h before after (inl shows) clean =
      rest_sound (connection ended) (views_of h) shows.tables clean
  ends_sound ended calls h before after (inr (c, at, fails)) clean =
      between_sound (connection ended) (views_of (before c)) (views_of (after c)) fails.leaves clean

  pub session_sound : (h : History) (calls : List Call) (ended : Registry C database)
      → EndsSession (showing database) h calls ended → HasCleanDisk database ended
      → AreDatabases (database.state (connection ended)).may_leave
  session_sound h calls ended session clean = ends_sound ended calls (after_session h (session_of calls NoDoubt))
      (λ c. after_session h (session_of calls (InDoubt c false)))
      (λ c. after_session h (session_of calls (InDoubt c true)))
      session.ends clean

-- what a connection to the two files shows
abbrev files_database : {D : Type 0} {g : disk.Ghosts D} → Ghosts (Held (FileStore D g))
files_database = record { state = file_state }

module _ {D E : Type 0} {g : disk.Ghosts D} {k : disk.Ghosts E} where
  -- the trees that the next connection sees are ones that a stop may have left of the earlier one
  pub finds : (earlier : Held (FileStore D g)) (conn : Held (FileStore E k))
      → (IsTrue (view earlier.store).is_open → recovers earlier.store (view earlier.store).committed)
      → AreDatabases (recovers earlier.store) → (image : Image) → IsLeftIn earlier image
      → FindsIn image (file_state conn)
      → ∥ recovers earlier.store (file_state conn).committed.trees ∥₁
  finds earlier conn stays sound image (Stopped numbered left) found =
      next_run earlier.store numbered sound image left (file_state conn) found
  finds earlier conn stays sound image (Unclosed last closed numbered left) found = ∥∥₁_map
      (next_run last numbered (λ db may. sound db (closed.quiet.outcomes db may)) image left
      (file_state conn) found)
      (λ may. closed.quiet.outcomes (file_state conn).committed.trees may)
  finds earlier conn stays sound image (Closed files copied left) found = ∥∥₁_map
      (copied.left image left).both
      (λ holds. subst (recovers earlier.store) (sym (found.holds (view earlier.store).committed holds))
      (stays copied.was_open))

  -- so it is opened after a stop of the earlier one
  pub finds_left : (earlier : Held (FileStore D g)) (conn : Held (FileStore E k))
      → (IsTrue (view earlier.store).is_open → recovers earlier.store (view earlier.store).committed)
      → AreDatabases (recovers earlier.store) → IsNextRun earlier conn
      → states.HasCleanDisk (file_state conn)
      → ∥ IsAfterStop files_database files_database earlier conn ∥₁
  finds_left earlier conn stays sound run clean =
      let opened = run.opens.opened clean in
      ∥∥₁_map (finds earlier conn stays sound run.image run.left (run.opens.found clean))
      (λ left. record {
        clean = run.clean;
        opened = opened;
        found = subst (recovers earlier.store) (sym (ap (λ (d : Database). d.trees) opened.0.clean)) left;
      })
