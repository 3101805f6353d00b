-- Steps of Making: the first rows of a new registry.
use Rattle.std.specs.Prelude.{◌≡◌, ℕ, List, [], ◌∷◌, ◌++◌, codes, None, Result, IsTrue}
use Rattle.std.specs.Prelude.{IfErr, MatchResult, OnOk}
use Rattle.sqlite.specs.State.{State}
use Rattle.sqlite.specs.Table.{Table}
use Rattle.pid_tables.specs.Rows.Steps.Batches.{Batches}
use Rattle.sqlite.specs.declared.types.Value.TheVariants.{Text}
use Rattle.pid_moderation.specs.History.{new_history}
use Rattle.pid_moderation.specs.Views.{views_of}
use Rattle.pid_tables.specs.declared.rows.fault.TableFault.{TableFault}
use Rattle.pid_tables.specs.Rows.Clauses.{HasCleanDisk, is_open, seen}
use Rattle.pid_tables.specs.Rows.Faults.{IsMemoryOrStore, IsNotNewerSchema}
use Rattle.pid_tables.specs.Rows.PairRows.{Map}
use Rattle.pid_tables.specs.Rows.Schema as tables
use Rattle.pid_tables.specs.Rows.Schema.{latest}
use Rattle.pid_tables.specs.Rows.Shows.{Shows}
use Rattle.pid_tables.specs.Rows.Steps.Turns.{GoesOn}
use Rattle.pid_tables.specs.Rows.TableRows.{number}
use Rattle.pid_tables.specs.Creation.{AreMade, IsNameTaken, table_names}
use Rattle.pid_tables.specs.Statements as texts
use Rattle.pid_tables.specs.Rows.Steps.Shows.{meta_of}
use Rattle.pid_tables.specs.Statements.{Statement, CarriedOut, new_label_text, new_account_text}
use Rattle.pid_tables.specs.Statements.{move_statements, registry_statements}
use Rattle.pid_tables.specs.Steps.Clauses.{Makes, Moves, Takes}
use Rattle.pid_tables.specs.Steps.MakingTables.{Creates, CreatesInTurn, HasOnlyMeta, IsMakerOf}
use Rattle.pid_tables.specs.Steps.MakingTables.{making}

-- all tables
abbrev pub all_tables : List Table
all_tables = tables.meta ∷ tables.account ∷ tables.item ∷ tables.submission ∷ tables.remark
    ∷ tables.receipt ∷ tables.item_since ∷ []

-- the statements that make the first tables, those that make the next ones, and all
abbrev pub first_statements : List Statement
first_statements = (texts.meta_text, []) ∷ (texts.account_text, [])
    ∷ (texts.item_text, []) ∷ []

abbrev pub rest_statements : List Statement
rest_statements = (texts.submission_text, []) ∷ (texts.remark_text, [])
    ∷ (texts.receipt_text, []) ∷ []

abbrev pub all_statements : List Statement
all_statements = first_statements ++ (rest_statements ++ (texts.item_since_text, []) ∷ [])

-- those that add the labels
abbrev pub label_statements : List Statement
label_statements = (new_label_text, Text (codes "revision") ∷ number 0 ∷ [])
    ∷ (new_label_text, Text (codes "submissions") ∷ number 0 ∷ [])
    ∷ (new_label_text, Text (codes "items") ∷ number 0 ∷ [])
    ∷ (new_label_text, Text (codes "schema") ∷ number (latest) ∷ []) ∷ []

-- the one that adds the account
abbrev pub root_statement : Statement
root_statement = (new_account_text, Text (codes "root") ∷ number 3 ∷ [])

module _ {S : Type 0} (state : S → State) where
  -- in any database, a step that answers a value has carried out these, and nothing else
  abbrev pub CarriesOut : {X : Type 0} → S → S → Result X TableFault → List Statement
      → Type 0
  CarriesOut old new result statements = HasCleanDisk state new → IsTrue (state old).in_transaction
      → OnOk result (CarriedOut state statements old new)

  -- a step that adds labels: meta has these rows before, and those then
  abbrev pub AddsLabels : {X : Type 0} → S → S → Result X TableFault → Map (List ℕ) ℕ
      → Map (List ℕ) ℕ → Type 0
  AddsLabels old new result before after = HasCleanDisk state new → IsTrue (state old).in_transaction
      → HasOnlyMeta before (seen state old)
      → MatchResult result (λ _. HasOnlyMeta after (seen state new)) IsMemoryOrStore

  -- if there was no table, those of a new registry are there then
  abbrev pub MakesRegistry : {X : Type 0} → S → S → Result X TableFault → Type 0
  MakesRegistry old new result = HasCleanDisk state new → IsTrue (state old).in_transaction
      → (IsTrue (is_open state old) → AreMade [] (seen state old))
      → MatchResult result (λ _. Shows (seen state new) (views_of new_history)) IsMemoryOrStore

module _ {S : Type 0} (batch : Batches S) where
  -- a step of the making inside a transaction, which goes on
  pub record CarriesInside {X : Type 0} (old new : S) (result : Result X TableFault)
      (statements : List Statement) : Type 0 where
    pub same_reference : batch.reference new ≡ batch.reference old
    pub goes : GoesOn (batch.state old) (batch.state new) result
    pub carried : CarriesOut batch.state old new result statements

  -- a step that makes one table
  pub record MakesOne {X : Type 0} (sql : List ℕ) (old new : S)
      (result : Result X TableFault) : Type 0 where
    pub works : CarriesInside old new result ((sql, []) ∷ [])
    pub made : (before : List Table) (table : Table) → Creates before sql table
        → (making before).tables ≡ before
        → Makes batch.state old new result before (before ++ table ∷ [])
    pub takes : (name : List ℕ) → IsMakerOf sql name
        → Takes batch.state old new result (name ∷ [])

  -- a step that makes three tables in turn
  pub record MakesThree {X : Type 0} (first second third : List ℕ) (old new : S)
      (result : Result X TableFault) : Type 0 where
    pub works : CarriesInside old new result
        ((first, []) ∷ (second, []) ∷ (third, []) ∷ [])
    pub made : (before : List Table) (a b c : Table)
        → CreatesInTurn before ((first, a) ∷ (second, b) ∷ (third, c) ∷ [])
        → Makes batch.state old new result before
        (((before ++ a ∷ []) ++ b ∷ []) ++ c ∷ [])
    pub takes : (a b c : List ℕ) → IsMakerOf first a → IsMakerOf second b → IsMakerOf third c
        → Takes batch.state old new result (a ∷ b ∷ c ∷ [])

  -- a step that makes all tables
  pub record MakesAll {X : Type 0} (old new : S) (result : Result X TableFault)
      : Type 0 where
    pub works : CarriesInside old new result all_statements
    pub made : Makes batch.state old new result [] all_tables
    pub takes : Takes batch.state old new result table_names

  -- a step that adds all labels
  pub record LabelsAll {X : Type 0} (old new : S) (result : Result X TableFault)
      : Type 0 where
    pub works : CarriesInside old new result label_statements
    pub never : IfErr result IsNotNewerSchema
    pub added : AddsLabels batch.state old new result (λ _. None)
        (meta_of (record { items = 0; submissions = 0 }) 0)

  -- a step that moves the tables of schema 1
  pub record MovesAll {X : Type 0} (old new : S) (result : Result X TableFault)
      : Type 0 where
    pub works : CarriesInside old new result move_statements
    pub never : IfErr result IsNotNewerSchema
    pub shows : Moves batch.state old new result

  -- the making of a whole registry
  pub record FillsRegistry {X : Type 0} (old new : S) (result : Result X TableFault)
      : Type 0 where
    pub works : CarriesInside old new result registry_statements
    pub filled : MakesRegistry batch.state old new result
    pub never : HasCleanDisk batch.state new → IsTrue (batch.state old).in_transaction
        → IfErr result IsNotNewerSchema
    pub refused : HasCleanDisk batch.state new → IsTrue (batch.state old).in_transaction
        → (IsTrue (is_open batch.state old) → IsNameTaken (batch.state old))
        → MatchResult result (λ _. ⊥) IsNotNewerSchema
