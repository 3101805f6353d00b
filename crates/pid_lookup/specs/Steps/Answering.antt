-- Serves private functions alone; no promise rests on it.
-- Steps of an answer.
use Rattle.std.specs.Prelude.{Result, Ok, Err}
use Rattle.pid_lookup.specs.declared.answer.Answer.{Answer}
use Rattle.pid_lookup.specs.declared.answering.LookupRefusal.{LookupRefusal}
use Rattle.pid_lookup.specs.declared.answering.LookupRefusal.TheVariants.{Memory}

-- an answer, or that there was no memory for it
abbrev pub in_memory : {E F : Type 0} → Result Answer E → Result Answer (LookupRefusal F)
in_memory (Ok answer) = Ok answer
in_memory (Err e) = Err Memory
