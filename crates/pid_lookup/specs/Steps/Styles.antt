-- Serves private functions alone; no promise rests on it.
-- What each style switches on.
use Rattle.std.specs.Prelude.{true, false}
use Rattle.pid_lookup.specs.Flags.{Switches}
use Rattle.pid_lookup.specs.declared.flags.Style.{Style}
use Rattle.pid_lookup.specs.declared.flags.Style.TheVariants as styles

abbrev pub switches : Style → Switches
switches styles.Numeric = record { numeric = true; no_numbers = false; mixed = false }
switches styles.Plain = record { numeric = false; no_numbers = false; mixed = false }
switches styles.Mixed = record { numeric = false; no_numbers = false; mixed = true }
switches styles.NoNumbers = record { numeric = false; no_numbers = true; mixed = false }
switches styles.NoNumbersMixed = record { numeric = false; no_numbers = true; mixed = true }
