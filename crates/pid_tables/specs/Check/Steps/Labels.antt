-- The rows of meta, one by one, and what is kept of them.
use Rattle.std.specs.Prelude.{◌≡◌, ◌≢◌, ◌⊎◌, ◌↔◌, ℕ, List, Option, Some, None, IsTrue, codes}
use Rattle.sqlite.specs.Effect.{Database}
use Rattle.sqlite.specs.Order.{Row}
use Rattle.sqlite_rules.specs.Lists.{Has}
use Rattle.pid_tables.specs.declared.rows.schema_version.Version.{Version}
use Rattle.pid_tables.specs.declared.rows.schema_version.Version.TheVariants.{One, Two}
use Rattle.pid_tables.specs.Rows.Schema.{version_number}
use Rattle.pid_tables.specs.declared.check.meta.Labels.{Labels}
use Rattle.pid_tables.specs.declared.check.meta.Occurrence.{Occurrence}
use Rattle.pid_tables.specs.declared.check.meta.Occurrence.TheVariants.{Never, Once, Several}
use Rattle.pid_tables.specs.declared.check.schema.Table.TheVariants.{Meta}
use Rattle.pid_tables.specs.Check.Conditions.{label_row, IsNewer}
use Rattle.pid_tables.specs.Check.Queries.{query_of}
use Rattle.pid_tables.specs.Check.Shapes.{ShowsRows}

-- the row is that of the label, with some number
abbrev pub IsOf : List ℕ → Row → Type 0
IsOf label r = (n : ℕ) × (r ≡ label_row (label, n))

-- one of the four labels
abbrev pub IsLabel : Row → Type 0
IsLabel r = IsOf (codes "schema") r ⊎ (IsOf (codes "items") r
    ⊎ (IsOf (codes "submissions") r ⊎ IsOf (codes "revision") r))

-- some row is that of the label, with the number
abbrev pub HasLabelRow : List Row → List ℕ → ℕ → Type 0
HasLabelRow rows label n = Has rows (label_row (label, n))

-- the rows have the label with no number, with this one alone, or with two numbers at least
abbrev pub IsToldOfLabel : List ℕ → List Row → Occurrence → Type 0
IsToldOfLabel label rows Never = (n : ℕ) → ¬ (HasLabelRow rows label n)
IsToldOfLabel label rows (Once one) = (n : ℕ) → HasLabelRow rows label n ↔ (n ≡ one)
IsToldOfLabel label rows Several = (m : ℕ) × (n : ℕ) × (m ≢ n) × HasLabelRow rows label m
    × HasLabelRow rows label n

-- a later schema says its number, or none does
abbrev pub IsLater : List Row → Option ℕ → Type 0
IsLater rows (Some n) = IsNewer n rows
IsLater rows None = (n : ℕ) → ¬ (IsNewer n rows)

-- the keeper took these rows
pub record TakesLabels (rows : List Row) (it : Labels) : Type 0 where
  pub good : IsTrue it.good ↔ ((r : Row) → Has rows r → IsLabel r)
  pub later : IsLater rows it.later
  pub schema : IsToldOfLabel (codes "schema") rows it.schema
  pub items : IsToldOfLabel (codes "items") rows it.items
  pub submissions : IsToldOfLabel (codes "submissions") rows it.submissions
  pub revision : IsToldOfLabel (codes "revision") rows it.revision

-- this is what was kept of rows that the query of meta answers
abbrev pub ShowsLabels : Database → Labels → Type 0
ShowsLabels d it = (rows : List Row) × ShowsRows d (query_of Meta) rows × TakesLabels rows it

-- schema 1 has no revision
abbrev pub IsRevision : Version → ℕ → Occurrence → Type 0
IsRevision One revision told = told ≡ Never
IsRevision Two revision told = told ≡ Once revision

-- the labels whose numbers the schema determines
abbrev pub IsToldOfSchema : Version → ℕ → Labels → Type 0
IsToldOfSchema version revision it = (it.schema ≡ Once (version_number version))
    × IsRevision version revision it.revision
