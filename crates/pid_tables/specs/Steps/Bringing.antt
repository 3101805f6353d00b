-- What is in a database that is to be moved to schema 2, and which step that takes.
use Rattle.std.specs.Prelude.{◌≡◌, Bool, true, false, Option, None, Some}
use Rattle.std.specs.Prelude.{Result, MatchResult}
use Rattle.sqlite.specs.Effect.{Database}
use Rattle.sqlite.specs.State.{State, HasCleanDisk}
use Rattle.pid_moderation.specs.History.{History}
use Rattle.pid_moderation.specs.Sound.{IsSound}
use Rattle.pid_moderation.specs.Views.{Views, views_of}
use Rattle.pid_tables.specs.declared.rows.fault.TableFault.{TableFault}
use Rattle.pid_tables.specs.declared.rows.schema_version.Version.{Version}
use Rattle.pid_tables.specs.declared.rows.schema_version.Version.TheVariants.{One, Two}
use Rattle.pid_tables.specs.Rows.Faults.{IsMemoryOrStore}
use Rattle.pid_tables.specs.Rows.Leaves.{RestsIn}
use Rattle.pid_tables.specs.Check.Checking.{FindsVersion}
use Rattle.pid_tables.specs.Check.Shapes.{HasNoTable}
use Rattle.pid_tables.specs.Bringing.{NamesLatest}
use Rattle.pid_tables.specs.declared.migration.Step.{Step}
use Rattle.pid_tables.specs.declared.migration.Step.TheVariants.{Created, Moved, Already}

-- the schema to which the tables are moved
abbrev pub is_latest : Version → Bool
is_latest One = false
is_latest Two = true

-- the step that is made if this is there
abbrev pub step_for : Option Version → Step
step_for None = Created
step_for (Some One) = Moved
step_for (Some Two) = Already

-- What is in the database.
pub data IsStanding (db : Database) (found : Option Version) : Type 0 where
  -- labels that name schema 2 are believed
  Named : found ≡ Some Two → NamesLatest db → IsStanding db found
  -- else the check finds it
  Found : FindsVersion db found → IsStanding db found

-- What is shown is found, if memory is enough and the store does not fail.
pub record FindsShown (old new : State) (result : Result (Option Version) TableFault)
    : Type 0 where
  pub shut : HasCleanDisk new → old.is_open ≡ false
      → MatchResult result (λ _. ⊥) IsMemoryOrStore
  pub bare : HasCleanDisk new → HasNoTable old.now.schema
      → MatchResult result (λ found. found ≡ None) IsMemoryOrStore
  pub earlier : HasCleanDisk new → (h : History) → IsSound h → RestsIn One old (views_of h)
      → MatchResult result (λ found. found ≡ Some One) IsMemoryOrStore
  pub latest : HasCleanDisk new → (v : Views) → RestsIn Two old v
      → MatchResult result (λ found. found ≡ Some Two) IsMemoryOrStore
