-- Steps of pages of what is pending.
use Rattle.std.specs.Prelude.{ℕ}
use Rattle.pid_moderation.specs.declared.lists.Pending.{Pending}

abbrev pub its_number : Pending → ℕ
its_number pending = pending.number
