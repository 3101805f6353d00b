-- The numbers of the refusals of a look-up: choices of this project.
use Rattle.std.specs.Prelude.{ℕ}
use Rattle.pid_lookup.specs.declared.answering.LookupRefusal.{LookupRefusal}
use Rattle.pid_lookup.specs.declared.answering.LookupRefusal.TheVariants.{BadFlags, Names, Memory}

-- bad flags, a fault of the holder of the names, and out of memory for the answer
abbrev pub lookup_refusal_number : {F : Type 0} → LookupRefusal F → ℕ
lookup_refusal_number BadFlags = 1
lookup_refusal_number (Names fault) = 2
lookup_refusal_number Memory = 3
