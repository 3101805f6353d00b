-- Steps of LabelRows.
use Rattle.std.specs.Prelude.{◌≡◌, List, ◌∷◌}
use Rattle.sqlite.specs.Schema.{Schema}
use Rattle.sqlite.specs.Table.{Table}
use Rattle.pid_tables.specs.Rows.Schema.{meta}

-- the table meta was made first, with its columns; whatever else was made comes after it
abbrev pub IsMetaFirst : Schema → Type 0
IsMetaFirst schema = (others : List Table) × (schema.tables ≡ meta ∷ others)
