-- What putting a name at a path comes to.
use Rattle.std.specs.Prelude.{ℕ, List, Option, Some, None, if◌then◌else◌}
use Rattle.std.specs.Str.{bytes_eq}
use Rattle.pid_tables.specs.declared.putting.Put.{Put}
use Rattle.pid_tables.specs.declared.putting.Put.TheVariants.{Added, Renamed, Same}

-- by the name that was there
abbrev pub put_over : List ℕ → Option (List ℕ) → Put
put_over name None = Added
put_over name (Some old) = if bytes_eq old name then Same else Renamed
