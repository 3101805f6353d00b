-- Refusals that judge nothing: a choice of this project.
use Rattle.std.specs.Prelude.{◌≡◌, ◌⊎◌}
use Rattle.pid_moderation.specs.declared.refusal.Refusal.{Refusal}
use Rattle.pid_moderation.specs.declared.refusal.Refusal.TheVariants.{Memory, Store}

-- out of memory, or the store failed
abbrev pub IsMemoryOrStore : Refusal → Type 0
IsMemoryOrStore refusal = (refusal ≡ Memory) ⊎ (refusal ≡ Store)
