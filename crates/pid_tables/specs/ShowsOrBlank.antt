-- What the tables of a connection show, if they show anything.
use Rattle.std.specs.Prelude.{◌≡◌, ◌⊎◌}
use Rattle.sqlite.specs.State.{State}
use Rattle.pid_moderation.specs.History.{History, new_history}
use Rattle.pid_moderation.specs.Views.{views_of}
use Rattle.pid_tables.specs.declared.rows.schema_version.Version.TheVariants.{One}
use Rattle.pid_tables.specs.Rows.Leaves.{AtRest, RestsIn}
use Rattle.pid_tables.specs.Creation.{RestsBare}

-- The tables show the history, whatever its mark, which they do not keep; or those of schema 1 show
-- it; or there is no table at all, which shows that of a new registry, as does one that a call was
-- to make there and could not.
abbrev pub ShowsOrBlank : State → History → Type 0
ShowsOrBlank s h = AtRest s (views_of h)
    ⊎ (RestsIn One s (views_of h) ⊎ (RestsBare s × (h ≡ new_history)))
