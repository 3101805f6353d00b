-- Steps of Shows.
use Rattle.std.specs.Prelude.{ℕ, List}
use Rattle.pid_tables.specs.declared.rows.schema_version.Version.TheVariants.{Two}
use Rattle.pid_tables.specs.Rows.PairRows.{Map}
use Rattle.sqlite.specs.Effect.{Database}
use Rattle.pid_moderation.specs.Views.{Views}
use Rattle.pid_tables.specs.Rows.Shows.{Counts, ShowsKeeping, labels_of, numbers_in}

-- those of schema 2
abbrev pub meta_of : Counts → ℕ → Map (List ℕ) ℕ
meta_of counts revision = labels_of Two counts revision

-- tables of schema 2 show the views, but that meta has these counts
abbrev pub ShowsCounting : Counts → Database → Views → Type 0
ShowsCounting counts db v = ShowsKeeping Two counts (numbers_in v) db v
