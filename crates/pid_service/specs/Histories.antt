-- Histories that commands lead to, and registries that show them: choices of this project.
use Rattle.std.specs.Prelude.{◌≡◌, ℕ, List, true, false}
pub use Rattle.pid_tables.specs.Faults.{IsMemoryOrStore}
use Rattle.pid_moderation.specs.History.{Asked, Begins, History}
use Rattle.pid_moderation.specs.Judgement.{after_all}
use Rattle.pid_moderation.specs.Revisions.{IsMarked}
use Rattle.pid_moderation.specs.Views.{views_of}
use Rattle.pid_moderation.specs.WellMade.{AreWellMade}
use Rattle.pid_service_laws.specs.Registries.{Showing}
use Rattle.pid_service_laws.specs.declared.registry_calls.RegistryCalls as registry_calls
use Rattle.pid_tables.specs.Rows.Clauses.{AtRest, LeavesEither}
use Rattle.pid_tables.specs.declared.database.Database.{Ghosts}
use Rattle.pid_service.specs.declared.registry.Registry.{Registry}
use Rattle.pid_service.specs.Registries.{HasCleanDisk, connection, is_live}
use Rattle.pid_service.specs.KeptViews.{KeepsNothing, KeepsRight, kept_views}

-- Commands lead to the history from its beginning, at least as many accepted as its mark says. The
-- mark is in no table.
pub record IsReached (h : History) : Type 0 where
  pub mark : ℕ
  pub commands : List Asked
  pub made : AreWellMade commands
  pub reached : h ≡ after_all (Begins mark) commands
  pub marked : IsMarked h

module _ {S : Type 0} (database : Ghosts S) where
  -- The registry is live, and outside a transaction its tables show the history, while no fault has
  -- shut the connection. So does everything that a crash may leave, and what is kept in memory is
  -- right about it.
  pub record Shows (r : Registry S database) (h : History) : Type 0 where
    pub lives : is_live r ≡ true
    pub history : IsReached h
    pub tables : AtRest database.state (connection r) (views_of h)
    pub kept : KeepsRight database r h

  -- The registry has failed, and keeps nothing in memory. Everything that a crash may leave shows
  -- the one history or the other, and commands lead to both.
  pub record FailsBetween (r : Registry S database) (h after : History) : Type 0 where
    pub has_failed : is_live r ≡ false
    pub forgotten : KeepsNothing (kept_views r)
    pub before : IsReached h
    pub next : IsReached after
    pub leaves : LeavesEither database.state (connection r) (views_of h) (views_of after)

  -- while the disk returns what was written, this holds of the history that the registry showed
  -- before a call
  abbrev pub OverHistory : Registry S database → Registry S database → (History → Type 0) → Type 0
  OverHistory old new Holds = HasCleanDisk database new → (h : History) → Shows old h → Holds h

  -- how sessions see a registry
  abbrev pub showing : Showing (Registry S database)
  showing = record {
    is_clean = HasCleanDisk database;
    shows = Shows;
    fails_between = FailsBetween;
    -- its questions change what they keep in memory
    beside = λ old new. Unit {0};
  }

  -- how scripts and HTTP ask it
  abbrev pub as_calls : registry_calls.Ghosts (Registry S database)
  as_calls = record { showing = showing; is_live = is_live }
