-- Steps of Shapes.
use Rattle.std.specs.Prelude.{Option, Some, None}
use Rattle.sqlite.specs.Schema.{Schema}
use Rattle.pid_tables.specs.declared.rows.schema_version.Version.{Version}
use Rattle.pid_tables.specs.Check.Shapes.{HasTables}

-- these tables, or those of neither schema, are there
abbrev pub HasTablesOf : Option Version → Schema → Type 0
HasTablesOf (Some version) schema = HasTables version schema
HasTablesOf None schema = (version : Version) → ¬ (HasTables version schema)
