-- Steps of an opening.
use Rattle.std.specs.Prelude.{◌≡◌, false, IsTrue, Some, Result, IfErr, MatchResult}
use Rattle.pid_moderation.specs.History.{History}
use Rattle.pid_moderation.specs.Views.{views_of}
use Rattle.pid_tables.specs.declared.database.Database.{Ghosts}
use Rattle.pid_tables.specs.declared.rows.fault.TableFault.{TableFault}
use Rattle.pid_tables.specs.declared.rows.schema_version.Version.TheVariants.{Two}
use Rattle.pid_tables.specs.Rows.Clauses.{AtRest, HasCleanDisk, OnlyReads, is_open, seen}
use Rattle.pid_tables.specs.Rows.Faults.{IsMemoryOrStore}
use Rattle.pid_tables.specs.Check.Checking.{Explains, FindsVersion}
use Rattle.pid_tables.specs.Clauses.{ShowsOrBlank}
use Rattle.pid_tables.specs.declared.tables.Tables.{Tables}
use Rattle.pid_service.specs.Histories.{IsReached}
use Rattle.pid_service.specs.Opening.{ExplainsOpening, KeepsTables, OpensAtOnce}

module _ {S : Type 0} (database : Ghosts S) where
  -- tables in the schema of today were judged
  pub record JudgesTables {X : Type 0} (old new : Tables S database)
      (result : Result X TableFault) : Type 0 where
    pub rests : OnlyReads database.state old.conn new.conn
    pub same : IsTrue (is_open database.state new.conn)
        → seen database.state new.conn ≡ seen database.state old.conn
    pub good : HasCleanDisk database.state new.conn → (h : History) → IsReached h
        → AtRest database.state old.conn (views_of h) → IfErr result IsMemoryOrStore
    pub shut : HasCleanDisk database.state new.conn → is_open database.state old.conn ≡ false
        → MatchResult result (λ _. ⊥) IsMemoryOrStore
    pub told : HasCleanDisk database.state new.conn → MatchResult result
        (λ _. FindsVersion (seen database.state old.conn) (Some Two))
        (Explains (seen database.state old.conn))

  -- tables were made, or moved, and judged
  pub record IsMadeReady {X : Type 0} (old new : Tables S database)
      (result : Result X TableFault) : Type 0 where
    pub at_once : OpensAtOnce database.state old.conn new.conn result
    -- Those that show a history, or can be made, show it in the schema of today; or memory ran out
    -- or the store failed, and it is still shown.
    pub ready : HasCleanDisk database.state new.conn → (h : History) → IsReached h
        → ShowsOrBlank database.state old.conn h
        → MatchResult result (λ _. AtRest database.state new.conn (views_of h))
        (λ e. IsMemoryOrStore e × ShowsOrBlank database.state new.conn h)
    pub kept : KeepsTables database.state old.conn new.conn result
    pub explains : ExplainsOpening database.state old.conn new.conn result
