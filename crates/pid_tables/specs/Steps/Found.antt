-- What is done for what was found in a database that is to be moved to schema 2.
use Rattle.std.specs.Prelude.{◌≡◌, Option, None, Some, Result, IsTrue, MatchResult}
use Rattle.sqlite.specs.State.{State}
use Rattle.pid_moderation.specs.History.{new_history}
use Rattle.pid_moderation.specs.Views.{Views, views_of}
use Rattle.pid_tables.specs.declared.rows.fault.TableFault.{TableFault}
use Rattle.pid_tables.specs.declared.rows.schema_version.Version.{Version}
use Rattle.pid_tables.specs.declared.rows.schema_version.Version.TheVariants.{One, Two}
use Rattle.pid_tables.specs.Rows.Clauses.{AtRest, HasCleanDisk, OnlyReads, RestsIn, is_open}
use Rattle.pid_tables.specs.Rows.Faults.{IsMemoryOrStore, IsNotNewerSchema}
use Rattle.pid_tables.specs.Clauses.{IsNameTaken, RestsBare}
use Rattle.pid_tables.specs.Statements.{Carries, move_statements, registry_statements}
use Rattle.pid_tables.specs.declared.migration.Step.{Step}

module _ {S : Type 0} (state : S → State) where
  -- no table: those of a new registry are made
  pub record BringsNone (old new : S) (result : Result Step TableFault) : Type 0 where
    -- nothing is written but what makes them
    pub carried : Carries state registry_statements old new result
    -- if there is no other table either, it shows the history of a new registry, or none is there
    -- still
    pub created : HasCleanDisk state new → RestsBare state old
        → MatchResult result (λ _. AtRest state new (views_of new_history))
        (λ fault. IsMemoryOrStore fault × RestsBare state new)
    -- something else under the name of a table is refused, and left as it is
    pub met : HasCleanDisk state new → (IsTrue (is_open state old) → IsNameTaken state old)
        → MatchResult result (λ _. ⊥)
        (λ fault. IsNotNewerSchema fault × OnlyReads state old new)

  -- tables of schema 1: they are moved
  pub record BringsOne (old new : S) (result : Result Step TableFault) : Type 0 where
    -- nothing is written but what moves them
    pub carried : Carries state move_statements old new result
    -- views that were shown are shown in schema 2, or in schema 1 still
    pub moved : HasCleanDisk state new → (v : Views) → RestsIn state One old v
        → MatchResult result (λ _. AtRest state new v)
        (λ fault. IsMemoryOrStore fault × RestsIn state One new v)

  -- tables of schema 2 are left as they are, and there is no fault
  abbrev pub BringsFound : Option Version → S → S → Result Step TableFault → Type 0
  BringsFound None old new result = BringsNone old new result
  BringsFound (Some One) old new result = BringsOne old new result
  BringsFound (Some Two) old new result = MatchResult result (λ _. new ≡ old) (λ _. ⊥)
