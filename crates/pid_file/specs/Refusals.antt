-- What is refused at a line, and what may be answered for it.
use Rattle.std.specs.Prelude.{◌≡◌, Option, Some, ◌⊎◌}
use Rattle.pid_file.specs.declared.refusal.ReadRefusal.{ReadRefusal}
use Rattle.pid_file.specs.declared.refusal.ReadRefusal.TheVariants.{Memory}

-- the refusal is that, or out of memory
abbrev pub IsRefusal : ReadRefusal → Option ReadRefusal → Type 0
IsRefusal r refusal = (r ≡ Memory) ⊎ (refusal ≡ Some r)
